-- Tables that lead from an id to the index of the first element that passes its test, and what a
-- push makes of them.
use Rattle.std.proofs.Common.{◌≡◌, ◌∙◌, ◌&&◌, ◌||◌, ℕ, ◌+◌, ◌≤◌, ◌<◌, suc, nat_lt, not, Bool, true, false, cond, List, [], ◌∷◌, ◌++◌, length, Option, Some, None, if◌then◌else◌, find, refl, ap, sym, arith}
use Rattle.std.specs.Prelude.{is_some, IfSome, option_map, option_and_then, slice_get}
use Rattle.std.specs.List.{list_any, position, position_or_len}
use Rattle.std.proofs.lemmas.Grind.{common_steps}
use Rattle.std.proofs.lemmas.List.Folds.{find_at}
use Rattle.std.proofs.lemmas.Option.{slice_get_past}
use Rattle.lsif.specs.Element.{IdValue, same_id, ElementValue}
use Rattle.dump.specs.Steps.Ids.{IsTable}
use Rattle.dump.specs.declared.single.SingleLabel.{SingleLabel}
use Rattle.dump.specs.Steps.Links.{single_target, is_single}
use Rattle.dump.specs.Walks.{Pair, same_label, single_of, single_pairs, first_to}

-- ---- the index of the first item that passes

index_by : (n l : ℕ) (b : Bool) → cond (nat_lt (cond (not b) (1 + n) 0) (suc l)) (Some (cond (not b) (1 + n) 0)) None ≡ cond b (Some 0) (option_map (λ k. 1 + k) (cond (nat_lt n l) (Some n) None))
index_by n l true = grind (arith, common_steps)
index_by n l false = by (nat_lt n l) refl
  where
    by : (c : Bool) → nat_lt n l ≡ c → cond (nat_lt (1 + n) (suc l)) (Some (1 + n)) None ≡ option_map (λ k. 1 + k) (cond c (Some n) None)
    by true e = grind (arith, common_steps)
    by false e = grind (arith, common_steps)

pub position-cons : {X : Type 0} (p : X → Bool) (x : X) (xs : List X) → position p (x ∷ xs) ≡ cond (p x) (Some 0) (option_map (λ k. 1 + k) (position p xs))
position-cons p x xs = index_by (position_or_len p xs) (length xs) (p x)

some_more : (o : Option ℕ) → is_some (option_map (λ k. 1 + k) o) ≡ is_some o
some_more None = refl
some_more (Some k) = refl

none_before : (o : Option ℕ) → option_map (λ k. 1 + k) o ≡ None → o ≡ None
none_before None e = refl
none_before (Some k) e = cc

pub position_miss : {X : Type 0} (p : X → Bool) (xs : List X) (x : X) → p x ≡ false → position p (xs ++ x ∷ []) ≡ position p xs
position_miss p [] x e = position-cons p x [] ∙ rw e refl
position_miss p (y ∷ xs) x e = position-cons p y (xs ++ x ∷ []) ∙ ap (λ o. cond (p y) (Some 0) (option_map (λ k. 1 + k) o)) (position_miss p xs x e) ∙ sym (position-cons p y xs)

hit_by : (o m : Option ℕ) (l : ℕ) → (o ≡ None → m ≡ Some l) → (b : Bool) → cond b (Some 0) (option_map (λ k. 1 + k) o) ≡ None → cond b (Some 0) (option_map (λ k. 1 + k) m) ≡ Some (suc l)
hit_by o m l rest true e = cc
hit_by o m l rest false e = rw (rest (none_before o e)) (ap Some (omega arith))

pub position_hit : {X : Type 0} (p : X → Bool) (xs : List X) (x : X) → p x ≡ true → position p xs ≡ None → position p (xs ++ x ∷ []) ≡ Some (length xs)
position_hit p [] x e none = position-cons p x [] ∙ rw e refl
position_hit p (y ∷ xs) x e none = position-cons p y (xs ++ x ∷ []) ∙ hit_by (position p xs) (position p (xs ++ x ∷ [])) (length xs) (position_hit p xs x e) (p y) (sym (position-cons p y xs) ∙ none)

kept_by : (o m : Option ℕ) → (is_some o ≡ true → m ≡ o) → (b : Bool) → is_some (cond b (Some 0) (option_map (λ k. 1 + k) o)) ≡ true → cond b (Some 0) (option_map (λ k. 1 + k) m) ≡ cond b (Some 0) (option_map (λ k. 1 + k) o)
kept_by o m rest true e = refl
kept_by o m rest false e = ap (option_map (λ k. 1 + k)) (rest (sym (some_more o) ∙ e))

pub position_kept : {X : Type 0} (p : X → Bool) (xs : List X) (x : X) → is_some (position p xs) ≡ true → position p (xs ++ x ∷ []) ≡ position p xs
position_kept p [] x e = cc
position_kept p (y ∷ xs) x e = position-cons p y (xs ++ x ∷ []) ∙ kept_by (position p xs) (position p (xs ++ x ∷ [])) (position_kept p xs x) (p y) (ap is_some (sym (position-cons p y xs)) ∙ e) ∙ sym (position-cons p y xs)

-- the item at that index
inside : {X : Type 0} (xs : List X) (n : ℕ) → option_and_then (slice_get xs) (cond (nat_lt n (length xs)) (Some n) None) ≡ slice_get xs n
inside xs n = by (nat_lt n (length xs)) refl
  where
    by : (b : Bool) → nat_lt n (length xs) ≡ b → option_and_then (slice_get xs) (cond b (Some n) None) ≡ slice_get xs n
    by true e = refl
    by false e = let le : length xs ≤ n = grind arith in sym (slice_get_past xs n le)

pub position-item : {X : Type 0} (p : X → Bool) (xs : List X) → option_and_then (slice_get xs) (position p xs) ≡ find p xs
position-item p xs = inside xs (position_or_len p xs) ∙ sym (find_at p xs)

some_by : (o : Option ℕ) (c : Bool) → is_some o ≡ c → (b : Bool) → is_some (cond b (Some 0) (option_map (λ k. 1 + k) o)) ≡ (b || c)
some_by o c e true = refl
some_by o c e false = some_more o ∙ e

pub position-any : {X : Type 0} (p : X → Bool) (xs : List X) → is_some (position p xs) ≡ list_any p xs
position-any p [] = refl
position-any p (x ∷ xs) = ap is_some (position-cons p x xs) ∙ some_by (position p xs) (list_any p xs) (position-any p xs) (p x)

below_by : (n l : ℕ) (o : Option ℕ) → o ≡ cond (nat_lt n l) (Some n) None → IfSome o (λ k. k < l)
below_by n l None e = tt
below_by n l (Some k) e = by (nat_lt n l) refl e
  where
    by : (b : Bool) → nat_lt n l ≡ b → Some k ≡ cond b (Some n) None → k < l
    by true lt h = let same : k ≡ n = cc in grind (arith, lt, same)
    by false lt h = cc

pub position_below : {X : Type 0} (p : X → Bool) (xs : List X) (o : Option ℕ) → o ≡ position p xs → IfSome o (λ k. k < length xs)
position_below p xs o e = below_by (position_or_len p xs) (length xs) o e

-- ---- tables

pub table-item : {X : Type 0} (table : IdValue → Option ℕ) (test : IdValue → X → Bool) (elements : List X) → IsTable table test elements → (i : IdValue) → option_and_then (slice_get elements) (table i) ≡ find (test i) elements
table-item table test elements h i = ap (option_and_then (slice_get elements)) (h i) ∙ position-item (test i) elements

pub table-any : {X : Type 0} (table : IdValue → Option ℕ) (test : IdValue → X → Bool) (elements : List X) → IsTable table test elements → (i : IdValue) → is_some (table i) ≡ list_any (test i) elements
table-any table test elements h i = ap is_some (h i) ∙ position-any (test i) elements

-- ---- what a vertex is joined to, by the first edge out of it

module _ (label : SingleLabel) (x : ElementValue) (i : IdValue) (rest : List Pair) (o : Option ElementValue) (same : first_to rest i ≡ option_and_then single_target o) where
  target_by : (t : IdValue) → single_target x ≡ Some t → (b : Bool) → cond b (Some t) (first_to rest i) ≡ option_and_then single_target (cond b (Some x) o)
  target_by t is true = sym is
  target_by t is false = same

  label_by : (p : Pair) → single_target x ≡ Some p.1 → (b : Bool) → first_to ((if b then p ∷ [] else []) ++ rest) i ≡ option_and_then single_target (cond (b && same_id p.0 i) (Some x) o)
  label_by p is true = target_by p.1 is (same_id p.0 i)
  label_by p is false = same

  pair_by : (e : Option (SingleLabel × Pair)) → single_target x ≡ option_map (λ p. p.1.1) e
      → first_to ((elim e as (λ _. List Pair) [ Some p ↦ if same_label p.0 label then p.1 ∷ [] else [] | None ↦ [] ]) ++ rest) i
      ≡ option_and_then single_target (cond (elim e as (λ _. Bool) [ Some p ↦ same_label p.0 label && same_id p.1.0 i | None ↦ false ]) (Some x) o)
  pair_by None is = same
  pair_by (Some p) is = label_by p.1 is (same_label p.0 label)

-- what the pairs of a label lead to is the target of the first edge of that label
pub first_to-single : (label : SingleLabel) (elements : List ElementValue) (i : IdValue) → first_to (single_pairs label elements) i ≡ option_and_then single_target (find (is_single label i) elements)
first_to-single label [] i = refl
first_to-single label (x ∷ elements) i = pair_by label x i (single_pairs label elements) (find (is_single label i) elements) (first_to-single label elements i) (single_of x) refl
