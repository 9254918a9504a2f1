-- One line more in a summary.
use Rattle.std.proofs.Common.{◌≡◌, ◌∙◌, ℕ, ◌+◌, ◌-◌, Bool, false, List, [], ◌∷◌, ◌++◌, length, fold, Option, Some, None, refl, ap, sym, arith, append-nil, append_assoc, slice_get, unwrap_or}
use Rattle.std.proofs.lemmas.List.Sums.{fold-append}
use Rattle.std.specs.List.{filter_map}
use Rattle.std.proofs.lemmas.List.{length_push}
use Rattle.std.proofs.lemmas.List.Elements.{filter_map-append}
use Rattle.tags.specs.Fault.{last_of, written_in, last_name, sorted_in, is_sorted, tags_from, tags_of, order_code}
use Rattle.tags.specs.States.{Summary, summary_of, add, counted, listed, order_in, running, start}
use Rattle.tags.specs.Values.{ContentValue, sorted, other, ordinary, EntryValue, TagValue, numbered}

slice_get-push : {X : Type 0} (xs : List X) (y : X) → slice_get (xs ++ y ∷ []) (length xs) ≡ Some y
slice_get-push [] y = refl
slice_get-push (x ∷ xs) y = slice_get-push xs y

pub last_of-push : {X : Type 0} (xs : List X) (y : X) → last_of (xs ++ y ∷ []) ≡ Some y
last_of-push xs y =
    let place : length (xs ++ y ∷ []) - 1 ≡ length xs = omega (arith, length_push xs y) in
    rw place (slice_get-push xs y)

last_name-none : (before : List ContentValue) (x : ContentValue) → written_in x ≡ None → last_name (before ++ x ∷ []) ≡ last_name before
last_name-none before x e = rw (filter_map-append written_in before (x ∷ []), e, append-nil) refl

last_name-some : (before : List ContentValue) (written : List ℕ) (e : EntryValue) → last_name (before ++ ordinary written e ∷ []) ≡ Some written
last_name-some before written e = rw (filter_map-append written_in before (ordinary written e ∷ [])) (last_of-push (filter_map written_in before) written)

is_sorted-none : (before : List ContentValue) (x : ContentValue) → sorted_in x ≡ None → is_sorted (before ++ x ∷ []) ≡ is_sorted before
is_sorted-none before x e = rw (filter_map-append sorted_in before (x ∷ []), e, append-nil) refl

is_sorted-some : (before : List ContentValue) (b : Bool) → is_sorted (before ++ sorted b ∷ []) ≡ b
is_sorted-some before b = rw (filter_map-append sorted_in before (sorted b ∷ [])) (ap (λ o. unwrap_or o false) (last_of-push (filter_map sorted_in before) b))

tags_from-append : (n : ℕ) (xs ys : List ContentValue) → tags_from n (xs ++ ys) ≡ tags_from n xs ++ tags_from (n + length xs) ys
tags_from-append n [] ys = ap (λ k. tags_from k ys) (omega arith)
tags_from-append n (sorted b ∷ xs) ys = tags_from-append (n + 1) xs ys ∙ ap (λ k. tags_from (n + 1) xs ++ tags_from k ys) (omega arith)
tags_from-append n (other ∷ xs) ys = tags_from-append (n + 1) xs ys ∙ ap (λ k. tags_from (n + 1) xs ++ tags_from k ys) (omega arith)
tags_from-append n (ordinary written e ∷ xs) ys = ap (λ ts. numbered n e ∷ ts) (tags_from-append (n + 1) xs ys ∙ ap (λ k. tags_from (n + 1) xs ++ tags_from k ys) (omega arith))

tags_of-none : (before : List ContentValue) (x : ContentValue) → tags_from (1 + length before) (x ∷ []) ≡ [] → tags_of (before ++ x ∷ []) ≡ tags_of before
unfolding tags_of
tags_of-none before x e = rw (tags_from-append 1 before (x ∷ []), e, append-nil) refl

tags_of-some : (before : List ContentValue) (written : List ℕ) (e : EntryValue) → tags_of (before ++ ordinary written e ∷ []) ≡ tags_of before ++ numbered (length before + 1) e ∷ []
unfolding tags_of
tags_of-some before written e = rw (tags_from-append 1 before (ordinary written e ∷ [])) (ap (λ k. tags_from 1 before ++ numbered k e ∷ []) (omega arith))

same_summary : {K : Type 0} (kept : K) (count count' : ℕ) (last last' : Option (List ℕ)) (checked checked' : Bool) → count ≡ count' → last ≡ last' → checked ≡ checked'
    → ◌≡◌ {A = Summary K} (record { count = count; kept = kept; last = last; checked = checked }) (record { count = count'; kept = kept; last = last'; checked = checked' })
same_summary kept count count' last last' checked checked' a b c = rw (a, b, c) refl

-- what is kept of the tags of these lines
abbrev pub kept_of : {K : Type 0} → (K → TagValue → K) → K → List ContentValue → K
kept_of keep none before = fold keep none (tags_of before)

-- the summary of these lines
abbrev pub summary_by : {K : Type 0} → (K → TagValue → K) → K → List ContentValue → Summary K
summary_by keep none before = summary_of (kept_of keep none before) before

kept_of-none : {K : Type 0} (keep : K → TagValue → K) (none : K) (before : List ContentValue) (x : ContentValue) → tags_of (before ++ x ∷ []) ≡ tags_of before → kept_of keep none (before ++ x ∷ []) ≡ kept_of keep none before
kept_of-none keep none before x e = ap (fold keep none) e

kept_of-some : {K : Type 0} (keep : K → TagValue → K) (none : K) (before : List ContentValue) (written : List ℕ) (e : EntryValue) → kept_of keep none (before ++ ordinary written e ∷ []) ≡ keep (kept_of keep none before) (numbered (length before + 1) e)
kept_of-some keep none before written e = ap (fold keep none) (tags_of-some before written e) ∙ fold-append keep none (tags_of before) (numbered (length before + 1) e ∷ [])

pub summary_by-push : {K : Type 0} (keep : K → TagValue → K) (none : K) (before : List ContentValue) (x : ContentValue) → summary_by keep none (before ++ x ∷ []) ≡ add keep (summary_by keep none before) x
unfolding summary_of
summary_by-push keep none before (sorted b) =
    rw (kept_of-none keep none before (sorted b) (tags_of-none before (sorted b) refl)) (same_summary _ _ _ _ _ _ _ (length_push before (sorted b)) (last_name-none before (sorted b) refl) (is_sorted-some before b))
summary_by-push keep none before other =
    rw (kept_of-none keep none before other (tags_of-none before other refl)) (same_summary _ _ _ _ _ _ _ (length_push before other) (last_name-none before other refl) (is_sorted-none before other refl))
summary_by-push keep none before (ordinary written e) =
    rw (kept_of-some keep none before written e) (same_summary _ _ _ _ _ _ _ (length_push before (ordinary written e)) (last_name-some before written e) (is_sorted-none before (ordinary written e) refl))

pub order_code-summary : {K : Type 0} (kept : K) (before : List ContentValue) (x : ContentValue) → order_code before x ≡ order_in (summary_of kept before) x
unfolding order_code summary_of
order_code-summary kept before x = refl

pub count-summary : {K : Type 0} (kept : K) (before : List ContentValue) → (summary_of kept before).count ≡ length before
unfolding summary_of
count-summary kept before = refl

pub kept-summary : {K : Type 0} (kept : K) (before : List ContentValue) → (summary_of kept before).kept ≡ kept
unfolding summary_of
kept-summary kept before = refl

pub start-summary : {K : Type 0} (keep : K → TagValue → K) (none : K) → start none ≡ running (summary_by keep none [])
unfolding summary_of tags_of
start-summary keep none = refl

-- ---- what is kept

listed-onto : (front tags : List TagValue) → fold listed front tags ≡ front ++ tags
listed-onto front [] = sym (append-nil front)
listed-onto front (tag ∷ tags) = listed-onto (front ++ tag ∷ []) tags ∙ append_assoc front (tag ∷ []) tags

-- the tags are kept in order
pub listed-all : (tags : List TagValue) → fold listed [] tags ≡ tags
listed-all tags = listed-onto [] tags

counted-onto : (n : ℕ) (tags : List TagValue) → fold counted n tags ≡ n + length tags
counted-onto n [] = omega arith
counted-onto n (tag ∷ tags) = counted-onto (n + 1) tags ∙ omega arith

-- their number is counted
pub counted-all : (tags : List TagValue) → fold counted 0 tags ≡ length tags
counted-all tags = counted-onto 0 tags ∙ omega arith
