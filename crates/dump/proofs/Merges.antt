-- A step of the loop that merges two lists of spans.
use Rattle.std.proofs.Common.{◌≡◌, ◌∙◌, ◌++◌, ◌∷◌, [], ℕ, ◌+◌, ◌-◌, ◌<◌, true, false, List, Some, Result, Ok, Err, IfOk, length, take, get_or, IsPermutation, refl, sym, ap, ap₂, subst, append_assoc, arith}
use Rattle.std.specs.List.{slice_get}
use Rattle.std.specs.declared.cmp.Ordering.{Ordering}
use Rattle.std.specs.declared.cmp.Ordering.TheVariants.{Less, Equal, Greater}
use Rattle.std.specs.Ordering.{is_lt, ordering_reverse}
use Rattle.std.proofs.lemmas.List.{get_or_default, get_or_push, length_push, take_more}
use Rattle.std.proofs.lemmas.List.Kept.{IsSortedBy-push}
use Rattle.std.proofs.lemmas.List.Sorted.{IsPermutation-trans, IsPermutation-sym, IsPermutation-cons, IsPermutation-middle, IsPermutation-to_front, IsPermutation-append_left, IsPermutation-append_right}
use Rattle.std.proofs.lemmas.Option.{slice_get-get_or}
use Rattle.positions.specs.Span.{SpanValue}
use Rattle.dump.specs.Steps.Spans.{span_order, IsOrdered, goes_first}
use Rattle.streams.proofs.Bools.{not_false}
use Rattle.dump.proofs.Passes.{not_true, span_total}

-- nothing left of the list from the index on comes before the last span
abbrev Left : List SpanValue → ℕ → List SpanValue → Type 0
Left xs i spans = (d : SpanValue) → 0 < length spans → i < length xs → is_lt (span_order (get_or xs i d) (get_or spans (length spans - 1) d)) ≡ false

pub record Merging (first second : List SpanValue) (i j : ℕ) (spans : List SpanValue) : Type 0 where
  pub all : IsPermutation (take i first ++ take j second) spans
  pub ordered : IsOrdered spans
  pub first_left : Left first i spans
  pub second_left : Left second j spans

-- the span at an index, by any default
at_index : (xs : List SpanValue) (i : ℕ) (x d : SpanValue) → i < length xs → x ≡ get_or xs i x → get_or xs i d ≡ x
at_index xs i x d lt is = get_or_default xs i d x lt ∙ sym is

last_pushed : (spans : List SpanValue) (x d : SpanValue) → get_or (spans ++ x ∷ []) (length (spans ++ x ∷ []) - 1) d ≡ x
last_pushed spans x d = let long = length_push spans x in get_or_push spans x d (length (spans ++ x ∷ []) - 1) (omega arith)

ordered_push : (xs spans : List SpanValue) (i : ℕ) (x : SpanValue) → i < length xs → x ≡ get_or xs i x → IsOrdered spans → Left xs i spans → IsOrdered (spans ++ x ∷ [])
ordered_push xs spans i x lt is up left =
    IsSortedBy-push (λ s t. is_lt (span_order s t)) spans x up (λ d some. subst (λ s. is_lt (span_order s (get_or spans (length spans - 1) d)) ≡ false) (at_index xs i x d lt is) (left d some lt))

-- the next span of the list that the pushed one comes from
left_more : (xs spans : List SpanValue) (i : ℕ) (x : SpanValue) → i < length xs → x ≡ get_or xs i x → IsOrdered xs → Left xs (i + 1) (spans ++ x ∷ [])
left_more xs spans i x lt is up d some more =
    subst (λ s. is_lt (span_order (get_or xs (i + 1) d) s) ≡ false) (at_index xs i x d lt is ∙ sym (last_pushed spans x d)) (up i d (omega arith) more)

-- the next span of the other list
left_other : (ys spans : List SpanValue) (j : ℕ) (x : SpanValue) → ((d : SpanValue) → j < length ys → is_lt (span_order (get_or ys j d) x) ≡ false) → Left ys j (spans ++ x ∷ [])
left_other ys spans j x h d some lt = subst (λ s. is_lt (span_order (get_or ys j d) s) ≡ false) (sym (last_pushed spans x d)) (h d lt)

taken : (xs : List SpanValue) (i : ℕ) (x : SpanValue) → i < length xs → x ≡ get_or xs i x → take (i + 1) xs ≡ take i xs ++ x ∷ []
taken xs i x lt is = take_more xs i x lt ∙ ap (λ y. take i xs ++ y ∷ []) (sym is)

moved_first : (xs ys spans : List SpanValue) (x : SpanValue) → IsPermutation (xs ++ ys) spans → IsPermutation ((xs ++ x ∷ []) ++ ys) (spans ++ x ∷ [])
moved_first xs ys spans x h =
    subst (λ l. IsPermutation l (spans ++ x ∷ [])) (sym (append_assoc xs (x ∷ []) ys))
    (IsPermutation-trans _ _ _ (IsPermutation-middle xs x ys) (IsPermutation-trans _ _ _ (IsPermutation-cons x _ _ h) (IsPermutation-sym _ _ (IsPermutation-to_front spans x))))

moved_second : (xs ys spans : List SpanValue) (x : SpanValue) → IsPermutation (xs ++ ys) spans → IsPermutation (xs ++ (ys ++ x ∷ [])) (spans ++ x ∷ [])
moved_second xs ys spans x h =
    subst (λ l. IsPermutation l (spans ++ x ∷ [])) (append_assoc xs ys (x ∷ [])) (IsPermutation-append_left (x ∷ []) (xs ++ ys) spans h)

pub not_both : (a b : Ordering) → a ≡ ordering_reverse b → is_lt b ≡ true → is_lt a ≡ false
not_both Less Less e h = cc
not_both Less Equal e h = cc
not_both Less Greater e h = cc
not_both Equal b e h = refl
not_both Greater b e h = refl

-- what the test says of the two next spans
first_says : (xs ys : List SpanValue) (i j : ℕ) (x : SpanValue) → i < length xs → x ≡ get_or xs i x → goes_first (slice_get xs i) (slice_get ys j) ≡ true
    → (d : SpanValue) → j < length ys → is_lt (span_order (get_or ys j d) x) ≡ false
first_says xs ys i j x lt is e d less =
    let a : slice_get xs i ≡ Some x = slice_get-get_or xs i x lt ∙ ap Some (sym is) in
    let b : slice_get ys j ≡ Some (get_or ys j d) = slice_get-get_or ys j d less in
    not_true (is_lt (span_order (get_or ys j d) x)) (sym (ap₂ goes_first a b) ∙ e)

second_says : (xs ys : List SpanValue) (i j : ℕ) (y : SpanValue) → j < length ys → y ≡ get_or ys j y → goes_first (slice_get xs i) (slice_get ys j) ≡ false
    → (d : SpanValue) → i < length xs → is_lt (span_order (get_or xs i d) y) ≡ false
second_says xs ys i j y lt is e d less =
    let a : slice_get xs i ≡ Some (get_or xs i d) = slice_get-get_or xs i d less in
    let b : slice_get ys j ≡ Some y = slice_get-get_or ys j y lt ∙ ap Some (sym is) in
    let before : is_lt (span_order y (get_or xs i d)) ≡ true = not_false (is_lt (span_order y (get_or xs i d))) (sym (ap₂ goes_first a b) ∙ e) in
    not_both (span_order (get_or xs i d) y) (span_order y (get_or xs i d)) (span_total.antisymm (get_or xs i d) y) before

pub more_first : (xs ys spans after : List SpanValue) (i j : ℕ) (x : SpanValue) → i < length xs → x ≡ get_or xs i x → goes_first (slice_get xs i) (slice_get ys j) ≡ true
    → after ≡ spans ++ x ∷ [] → IsOrdered xs → Merging xs ys i j spans → Merging xs ys (i + 1) j after
more_first xs ys spans after i j x lt is e pushed up h =
    subst (Merging xs ys (i + 1) j) (sym pushed) (record {
      all = subst (λ l. IsPermutation (l ++ take j ys) (spans ++ x ∷ [])) (sym (taken xs i x lt is)) (moved_first (take i xs) (take j ys) spans x h.all);
      ordered = ordered_push xs spans i x lt is h.ordered h.first_left;
      first_left = left_more xs spans i x lt is up;
      second_left = left_other ys spans j x (first_says xs ys i j x lt is e);
    })

pub more_second : (xs ys spans after : List SpanValue) (i j : ℕ) (y : SpanValue) → j < length ys → y ≡ get_or ys j y → goes_first (slice_get xs i) (slice_get ys j) ≡ false
    → after ≡ spans ++ y ∷ [] → IsOrdered ys → Merging xs ys i j spans → Merging xs ys i (j + 1) after
more_second xs ys spans after i j y lt is e pushed up h =
    subst (Merging xs ys i (j + 1)) (sym pushed) (record {
      all = subst (λ l. IsPermutation (take i xs ++ l) (spans ++ y ∷ [])) (sym (taken ys j y lt is)) (moved_second (take i xs) (take j ys) spans y h.all);
      ordered = ordered_push ys spans j y lt is h.ordered h.second_left;
      first_left = left_other xs spans i y (second_says xs ys i j y lt is e);
      second_left = left_more ys spans j y lt is up;
    })

-- ---- a list that is put in order before

pub sorted_first : {V E : Type 0} (others targets sorted seen : List SpanValue) (items : V → List SpanValue) (r : Result V E) → IsPermutation targets sorted → seen ≡ sorted
    → IfOk r (λ v. IsPermutation (others ++ seen) (items v)) → IfOk r (λ v. IsPermutation (others ++ targets) (items v))
sorted_first others targets sorted seen items (Ok v) moved is h =
    IsPermutation-trans _ _ _ (IsPermutation-append_right others targets sorted moved) (subst (λ l. IsPermutation (others ++ l) (items v)) is h)
sorted_first others targets sorted seen items (Err e) moved is h = h
