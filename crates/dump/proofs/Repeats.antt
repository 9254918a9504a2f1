-- Repeated ids of a list that grows at its end.
use Rattle.std.proofs.Common.{◌≡◌, ◌∙◌, ◌||◌, ℕ, Bool, true, false, List, [], ◌∷◌, ◌++◌, Option, Some, None, if◌then◌else◌, refl, ap, sym, append-nil}
use Rattle.std.specs.Prelude.{is_some}
use Rattle.std.proofs.lemmas.Bool.{or_parts}
use Rattle.std.proofs.lemmas.List.{append_assoc}
use Rattle.std.proofs.lemmas.List.Folds.{list_any-append}
use Rattle.lsif.specs.Element.{IdValue, same_id}
use Rattle.dump.specs.Graph.{is_among, has_repeated}
use Rattle.dump.specs.Steps.Ids.{entered}
use Rattle.dump.proofs.SameIds.{same_id_swap}

or_true : (b : Bool) → (b || true) ≡ true
or_true true = refl
or_true false = refl

or_false : (b c : Bool) → b ≡ false → c ≡ false → (b || c) ≡ false
or_false b c d e = rw (d, e) refl

-- the id is among the first ones, or is the one after them
pub among_push : (is : List IdValue) (j i : IdValue) → is_among i (is ++ j ∷ []) ≡ (is_among i is || (same_id j i || false))
among_push is j i = list_any-append (λ k. same_id k i) is (j ∷ [])

among_middle : (is js : List IdValue) (j i : IdValue) → same_id j i ≡ true → is_among i (is ++ j ∷ js) ≡ true
among_middle is js j i e = list_any-append (λ k. same_id k i) is (j ∷ js) ∙ rw e (or_true (is_among i is))

-- an id that comes before itself
pub repeated_again : (is js : List IdValue) (i : IdValue) → is_among i is ≡ true → has_repeated (is ++ i ∷ js) ≡ true
repeated_again [] js i e = cc
repeated_again (x ∷ is) js i e = by (same_id x i) refl (repeated_again is js i)
  where
    by : (b : Bool) → same_id x i ≡ b → (is_among i is ≡ true → has_repeated (is ++ i ∷ js) ≡ true) → has_repeated (x ∷ (is ++ i ∷ js)) ≡ true
    by true h again = rw (among_middle is js i x (same_id_swap i x ∙ h)) refl
    by false h again = let rest : is_among i is ≡ true = rw h at e in rw (again rest) (or_true (is_among x (is ++ i ∷ js)))

-- one more id that isn't among those before it
pub repeated_push : (is : List IdValue) (i : IdValue) → has_repeated is ≡ false → is_among i is ≡ false → has_repeated (is ++ i ∷ []) ≡ false
repeated_push [] i none new = refl
repeated_push (x ∷ is) i none new =
    let nones = or_parts (is_among x is) (has_repeated is) none in
    let news = or_parts (same_id x i) (is_among i is) new in
    or_false _ _ (among_push is i x ∙ rw (nones.0, same_id_swap i x, news.0) refl) (repeated_push is i nones.1 news.1)

-- ---- the same of a list that is walked, of which these were passed and this is the next

-- one id was passed more
pub one_passed : (front rest all whole : List IdValue) (x : IdValue) → whole ≡ x ∷ rest → front ++ whole ≡ all → (front ++ x ∷ []) ++ rest ≡ all
one_passed front rest all whole x next split = append_assoc front (x ∷ []) rest ∙ ap (λ l. front ++ l) (sym next) ∙ split

pub all_passed : (front all whole : List IdValue) → whole ≡ [] → front ++ whole ≡ all → front ≡ all
all_passed front all whole none split = sym (append-nil front) ∙ ap (λ l. front ++ l) (sym none) ∙ split

pub again-hit : (front rest all whole : List IdValue) (x : IdValue) → whole ≡ x ∷ rest → front ++ whole ≡ all → is_among x front ≡ true → true ≡ has_repeated all
again-hit front rest all whole x next split h = sym (ap has_repeated (sym split ∙ ap (λ l. front ++ l) next) ∙ repeated_again front rest x h)

-- a table of the ids that were passed, and what one more makes of it
pub seen_more : {V : Type 0} (front : List IdValue) (x : IdValue) (v : V) (old new : IdValue → Option V)
    → ((i : IdValue) → is_some (old i) ≡ is_among i front)
    → ((i : IdValue) → new i ≡ (if same_id x i then Some v else old i))
    → (i : IdValue) → is_some (new i) ≡ is_among i (front ++ x ∷ [])
seen_more front x v old new before is i = ap is_some (is i) ∙ by (same_id x i) refl ∙ sym (among_push front x i)
  where
    by : (b : Bool) → same_id x i ≡ b → is_some (if b then Some v else old i) ≡ (is_among i front || (b || false))
    by true h = sym (or_true _)
    by false h = before i ∙ sym (plain (is_among i front))
      where
        plain : (c : Bool) → (c || false) ≡ c
        plain true = refl
        plain false = refl

entered_twice : (here there : Bool) (index : ℕ) (o : Option ℕ) → entered there index (entered here index o) ≡ entered (here || (there || false)) index o
entered_twice here there index (Some old) = refl
entered_twice true there index None = refl
entered_twice false true index None = refl
entered_twice false false index None = refl

-- an index entered at the ids that were passed, and at one more
pub entered_more : (front : List IdValue) (x : IdValue) (index : ℕ) (first old new : IdValue → Option ℕ)
    → ((i : IdValue) → old i ≡ entered (is_among i front) index (first i))
    → ((i : IdValue) → new i ≡ entered (same_id x i) index (old i))
    → (i : IdValue) → new i ≡ entered (is_among i (front ++ x ∷ [])) index (first i)
entered_more front x index first old new before is i =
    is i
    ∙ ap (entered (same_id x i) index) (before i)
    ∙ entered_twice (is_among i front) (same_id x i) index (first i)
    ∙ sym (ap (λ here. entered here index (first i)) (among_push front x i))
