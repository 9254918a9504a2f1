-- What the values of an array are, gathered one at a time.
use Rattle.std.proofs.Math.ListN.{drop_of_length-le}
use Rattle.std.proofs.Common.{◌≡◌, ℕ, ◌+◌, ◌<◌, ◌≤◌, List, [], ◌∷◌, ◌++◌, Option, Some, None, option_map, length, drop, refl, ap, append_assoc, add-one, get_or, drop-cons, suc, sym, ◌∙◌}
use Rattle.serde_json.specs.declared.value.Value.{Value}
use Rattle.serde_json.specs.View.{view, items_view}
use Rattle.lsif.specs.Ids.{each_in}
use Rattle.serde_json.specs.Data.{Data, Items, item}

abbrev pub with_front : {A : Type 0} → List A → Option (List A) → Option (List A)
with_front front rest = option_map (λ xs. front ++ xs) rest

with_front-push : {A : Type 0} (front : List A) (x : A) (rest : Option (List A)) → with_front (front ++ x ∷ []) rest ≡ with_front front (option_map (λ xs. x ∷ xs) rest)
with_front-push front x None = refl
with_front-push front x (Some xs) = ap Some (append_assoc front (x ∷ []) xs)

-- the first item is nothing
each_in-none : {A : Type 0} (f : Data → Option A) (d : Data) (ds : Items) → f d ≡ None → each_in f (item d ds) ≡ None
unfolding each_in
each_in-none f d ds e = rw e refl

each_in-some : {A : Type 0} (f : Data → Option A) (d : Data) (ds : Items) (x : A) → f d ≡ Some x → each_in f (item d ds) ≡ option_map (λ xs. x ∷ xs) (each_in f ds)
unfolding each_in
each_in-some f d ds x e = rw e refl

-- the item at an index, and those after it
drop_next : {A : Type 0} (xs : List A) (k : ℕ) (x : A) → k < length xs → x ≡ get_or xs k x → drop k xs ≡ x ∷ drop (k + 1) xs
drop_next xs k x lt e = let d : drop k xs ≡ get_or xs k x ∷ drop (suc k) xs = drop-cons xs k x lt in rw add-one (d ∙ ap (λ y. y ∷ drop (suc k) xs) (sym e))

abbrev pub rest_of : {A : Type 0} → (Data → Option A) → List Value → ℕ → Option (List A)
rest_of f vs k = each_in f (items_view (drop k vs))

pub rest_of-none : {A : Type 0} (f : Data → Option A) (vs : List Value) (k : ℕ) (v : Value) → k < length vs → v ≡ get_or vs k v → f (view v) ≡ None → rest_of f vs k ≡ None
rest_of-none f vs k v lt e h = rw (drop_next vs k v lt e) (each_in-none f (view v) (items_view (drop (k + 1) vs)) h)

rest_of-some : {A : Type 0} (f : Data → Option A) (vs : List Value) (k : ℕ) (v : Value) (x : A) → k < length vs → v ≡ get_or vs k v → f (view v) ≡ Some x → rest_of f vs k ≡ option_map (λ xs. x ∷ xs) (rest_of f vs (k + 1))
rest_of-some f vs k v x lt e h = rw (drop_next vs k v lt e) (each_in-some f (view v) (items_view (drop (k + 1) vs)) x h)

pub rest_of-end : {A : Type 0} (f : Data → Option A) (vs : List Value) (k : ℕ) → length vs ≤ k → rest_of f vs k ≡ Some []
unfolding each_in
rest_of-end f vs k le = rw (drop_of_length-le vs le) refl

-- the front and the rest, at an item that is something
pub front-next : {A : Type 0} (f : Data → Option A) (vs : List Value) (k : ℕ) (v : Value) (x : A) (front : List A) → k < length vs → v ≡ get_or vs k v → f (view v) ≡ Some x → with_front (front ++ x ∷ []) (rest_of f vs (k + 1)) ≡ with_front front (rest_of f vs k)
front-next f vs k v x front lt e h = rw (rest_of-some f vs k v x lt e h) (with_front-push front x (rest_of f vs (k + 1)))
