-- Members of lists, and those that pass a test.
use Rattle.std.proofs.Common.{◌≡◌, ◌∙◌, ◌⊎◌, inl, inr, ⊎_elim, Bool, true, false, cond, List, [], ◌∷◌, length, filter, find, map, refl, sym, ap, subst, arith}
use Rattle.std.specs.Prelude.{Contains, Option, Some, None, if◌then◌else◌}
use Rattle.std.specs.List.{flat_map, list_any}
use Rattle.std.proofs.lemmas.List.Elements.{Contains-append_left, Contains-append_right, Contains-append_cases, Contains-push_cases}
use Rattle.streams.proofs.Bools.{or_left, or_right, or_some}

pub contains_head : {X : Type 0} (x : X) (xs : List X) → Contains (x ∷ xs) x
contains_head x xs = Contains-append_left (x ∷ []) xs x (0, omega arith, refl)

pub contains_tail : {X : Type 0} (y : X) (xs : List X) (x : X) → Contains xs x → Contains (y ∷ xs) x
contains_tail y xs x at = Contains-append_right (y ∷ []) xs x at

pub not_in_nil : {X : Type 0} (x : X) → Contains [] x → ⊥
not_in_nil x at = omega (arith, at.1)

pub contains_cases : {X : Type 0} (y : X) (xs : List X) (x : X) → Contains (y ∷ xs) x → (y ≡ x) ⊎ Contains xs x
contains_cases y xs x at = ⊎_elim (λ (h : Contains (y ∷ []) x). ⊎_elim (λ (n : Contains [] x). absurd (not_in_nil x n)) (λ (e : y ≡ x). inl e) (Contains-push_cases [] y x h)) (λ (t : Contains xs x). inr t) (Contains-append_cases (y ∷ []) xs x at)

pub contains_one : {X : Type 0} (y x : X) → Contains (y ∷ []) x → y ≡ x
contains_one y x at = ⊎_elim (λ (e : y ≡ x). e) (λ (n : Contains [] x). absurd (not_in_nil x n)) (contains_cases y [] x at)

pub one_contains : {X : Type 0} (y x : X) → y ≡ x → Contains (y ∷ []) x
one_contains y x e = subst (Contains (y ∷ [])) e (contains_head y [])

pub contains_map : {X Y : Type 0} (f : X → Y) (xs : List X) (x : X) → Contains xs x → Contains (map f xs) (f x)
contains_map f [] x at = absurd (not_in_nil x at)
contains_map f (y ∷ xs) x at = ⊎_elim (λ (e : y ≡ x). subst (λ z. Contains (f y ∷ map f xs) (f z)) e (contains_head (f y) (map f xs))) (λ (t : Contains xs x). contains_tail (f y) (map f xs) (f x) (contains_map f xs x t)) (contains_cases y xs x at)

-- whence a member of a mapped list comes
pub map_source : {X Y : Type 0} (f : X → Y) (xs : List X) (y : Y) → Contains (map f xs) y → (x : X) × Contains xs x × (f x ≡ y)
map_source f [] y at = absurd (not_in_nil y at)
map_source f (x ∷ xs) y at = ⊎_elim
    (λ (e : f x ≡ y). (x, contains_head x xs, e))
    (λ (t : Contains (map f xs) y). let r = map_source f xs y t in (r.0, contains_tail x xs r.0 r.1, r.2))
    (contains_cases (f x) (map f xs) y at)

pub flat_of : {X Y : Type 0} (f : X → List Y) (xs : List X) (y : Y) → Contains (flat_map f xs) y → (x : X) × Contains xs x × Contains (f x) y
flat_of f [] y at = absurd (not_in_nil y at)
flat_of f (x ∷ xs) y at = ⊎_elim (λ (h : Contains (f x) y). (x, contains_head x xs, h)) (λ (t : Contains (flat_map f xs) y). let r = flat_of f xs y t in (r.0, contains_tail x xs r.0 r.1, r.2)) (Contains-append_cases (f x) (flat_map f xs) y at)

pub flat_from : {X Y : Type 0} (f : X → List Y) (xs : List X) (x : X) (y : Y) → Contains xs x → Contains (f x) y → Contains (flat_map f xs) y
flat_from f [] x y at h = absurd (not_in_nil x at)
flat_from f (z ∷ xs) x y at h = ⊎_elim (λ (s : z ≡ x). Contains-append_left (f z) (flat_map f xs) y (subst (λ w. Contains (f w) y) (sym s) h)) (λ (t : Contains xs x). Contains-append_right (f z) (flat_map f xs) y (flat_from f xs x y t h)) (contains_cases z xs x at)

-- what stands in a list that is there where a test holds
pub in_if : {X : Type 0} (b : Bool) (xs : List X) (x : X) → Contains (if b then xs else []) x → (b ≡ true) × Contains xs x
in_if true xs x at = (refl, at)
in_if false xs x at = absurd (not_in_nil x at)

pub if_in : {X : Type 0} (b : Bool) (xs : List X) (x : X) → b ≡ true → Contains xs x → Contains (if b then xs else []) x
if_in true xs x e at = at
if_in false xs x e at = cc

pub none_of : {X : Type 0} (o : Option X) → ((x : X) → o ≡ Some x → ⊥) → o ≡ None
none_of None h = refl
none_of (Some x) h = absurd (h x refl)

pub nil_of : {X : Type 0} (xs : List X) → length xs ≡ 0 → xs ≡ []
nil_of [] e = refl
nil_of (x ∷ xs) e = absurd (omega (arith, e))

-- ---- members that pass a test

pub any_of : {X : Type 0} (p : X → Bool) (xs : List X) → list_any p xs ≡ true → (x : X) × Contains xs x × (p x ≡ true)
any_of p [] e = cc
any_of p (x ∷ xs) e = ⊎_elim (λ (h : p x ≡ true). (x, contains_head x xs, h)) (λ (t : list_any p xs ≡ true). let r = any_of p xs t in (r.0, contains_tail x xs r.0 r.1, r.2)) (or_some (p x) (list_any p xs) e)

pub any_from : {X : Type 0} (p : X → Bool) (xs : List X) (x : X) → Contains xs x → p x ≡ true → list_any p xs ≡ true
any_from p [] x at e = absurd (not_in_nil x at)
any_from p (y ∷ xs) x at e = ⊎_elim (λ (s : y ≡ x). or_left (p y) (list_any p xs) (ap p s ∙ e)) (λ (t : Contains xs x). or_right (p y) (list_any p xs) (any_from p xs x t e)) (contains_cases y xs x at)

find_by : {X : Type 0} (p : X → Bool) (x : X) (xs : List X) (y : X) → (find p xs ≡ Some y → Contains xs y × (p y ≡ true)) → (b : Bool) → p x ≡ b → cond b (Some x) (find p xs) ≡ Some y → Contains (x ∷ xs) y × (p y ≡ true)
find_by p x xs y rest true passes e = let same : x ≡ y = cc in (subst (Contains (x ∷ xs)) same (contains_head x xs), subst (λ z. p z ≡ true) same passes)
find_by p x xs y rest false passes e = let r = rest e in (contains_tail x xs y r.0, r.1)

-- what is found is a member that passes
pub found_member : {X : Type 0} (p : X → Bool) (xs : List X) (y : X) → find p xs ≡ Some y → Contains xs y × (p y ≡ true)
found_member p [] y e = cc
found_member p (x ∷ xs) y e = find_by p x xs y (found_member p xs y) (p x) refl e

here_or : {X : Type 0} (x : X) (o : Option X) (b : Bool) → b ≡ true → (y : X) × (cond b (Some x) o ≡ Some y)
here_or x o true e = (x, refl)
here_or x o false e = cc

later_or : {X : Type 0} (x : X) (o : Option X) (b : Bool) → (y : X) × (o ≡ Some y) → (y : X) × (cond b (Some x) o ≡ Some y)
later_or x o true found = (x, refl)
later_or x o false found = found

-- where a member passes, one is found
pub member_found : {X : Type 0} (p : X → Bool) (xs : List X) (x : X) → Contains xs x → p x ≡ true → (y : X) × (find p xs ≡ Some y)
member_found p [] x at e = absurd (not_in_nil x at)
member_found p (z ∷ xs) x at e = ⊎_elim (λ (s : z ≡ x). here_or z (find p xs) (p z) (ap p s ∙ e)) (λ (t : Contains xs x). later_or z (find p xs) (p z) (member_found p xs x t e)) (contains_cases z xs x at)

pub filter_keeps : {X : Type 0} (p : X → Bool) (xs : List X) (x : X) → Contains xs x → p x ≡ true → Contains (filter p xs) x
filter_keeps p [] x at e = absurd (not_in_nil x at)
filter_keeps {X} p (y ∷ xs) x at e = ⊎_elim
    (λ (s : y ≡ x). let passes : p y ≡ true = ap p s ∙ e in subst (λ b. Contains (cond b (y ∷ filter p xs) (filter p xs)) x) (sym passes) (subst (Contains (y ∷ filter p xs)) s (contains_head y (filter p xs))))
    (λ (t : Contains xs x). by (p y) (filter_keeps p xs x t e))
    (contains_cases y xs x at)
  where
    by : (b : Bool) → Contains (filter p xs) x → Contains (cond b (y ∷ filter p xs) (filter p xs)) x
    by true h = contains_tail y (filter p xs) x h
    by false h = h

pub filter_source : {X : Type 0} (p : X → Bool) (xs : List X) (x : X) → Contains (filter p xs) x → Contains xs x × (p x ≡ true)
filter_source p [] x at = absurd (not_in_nil x at)
filter_source {X} p (y ∷ xs) x at = by (p y) refl (filter_source p xs x) at
  where
    by : (b : Bool) → p y ≡ b → (Contains (filter p xs) x → Contains xs x × (p x ≡ true)) → Contains (cond b (y ∷ filter p xs) (filter p xs)) x → Contains (y ∷ xs) x × (p x ≡ true)
    by true e more h = ⊎_elim
        (λ (s : y ≡ x). (subst (Contains (y ∷ xs)) s (contains_head y xs), sym (ap p s) ∙ e))
        (λ (t : Contains (filter p xs) x). let r = more t in (contains_tail y xs x r.0, r.1))
        (contains_cases y (filter p xs) x h)
    by false e more h = let r = more h in (contains_tail y xs x r.0, r.1)
