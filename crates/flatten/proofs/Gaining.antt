-- Numbers added to those that were found.
use Rattle.std.proofs.Common.{◌≡◌, inl, inr, ⊎_elim, ◌∙◌, ◌++◌, ℕ, ◌+◌, ◌<◌, ◌≤◌, Bool, true, false, not, nat_eq, List, [], ◌∷◌, length, get_or, take, map, refl, sym, ap, subst, append_assoc, append-nil}
use Rattle.std.specs.Prelude.{◌↔◌, Contains}
use Rattle.std.specs.List.{list_any}
use Rattle.std.proofs.lemmas.List.{take_more, map_more, get_or_append_left, take_all}
use Rattle.std.proofs.lemmas.List.Elements.{Contains-append_left, Contains-append_right, Contains-append_cases}
use Rattle.std.proofs.lemmas.Map.Views.{Contains-from_any, exact_unsigned_eq}
use Rattle.flatten.specs.Steps.Found.{Gains}
use Rattle.streams.proofs.Members.{not_in_nil, contains_one}

pub not_false : (b : Bool) → not b ≡ false → b ≡ true
not_false true e = refl
not_false false e = cc

-- first some, and then others
pub gains_both : (old mid new xs ys : List ℕ) → Gains old xs mid → Gains mid ys new → Gains old (xs ++ ys) new
gains_both old mid new xs ys g h = record {
  more = g.more ++ h.more;
  grown = h.grown ∙ ap (λ zs. zs ++ h.more) g.grown ∙ append_assoc old g.more h.more;
  each = λ y. (
    λ at. ⊎_elim
        (λ (m : Contains mid y). ⊎_elim (λ (o : Contains old y). inl o) (λ (x : Contains xs y). inr (Contains-append_left xs ys y x)) ((g.each y).0 m))
        (λ (n : Contains ys y). inr (Contains-append_right xs ys y n))
        ((h.each y).0 at),
    λ either. ⊎_elim
        (λ (o : Contains old y). (h.each y).1 (inl ((g.each y).1 (inl o))))
        (λ (n : Contains (xs ++ ys) y). ⊎_elim (λ (x : Contains xs y). (h.each y).1 (inl ((g.each y).1 (inr x)))) (λ (z : Contains ys y). (h.each y).1 (inr z)) (Contains-append_cases xs ys y n))
        either,
  );
}

-- the next of some numbers
pub gains_more : (old mid new xs : List ℕ) (i d : ℕ) → i < length xs → Gains old (take i xs) mid → Gains mid (get_or xs i d ∷ []) new → Gains old (take (i + 1) xs) new
gains_more old mid new xs i d lt g h = subst (λ zs. Gains old zs new) (sym (take_more xs i d lt)) (gains_both old mid new (take i xs) (get_or xs i d ∷ []) g h)

-- the next of the numbers that are read from some things
pub gains_more_of : {X : Type 0} (f : X → ℕ) (old mid new : List ℕ) (xs : List X) (i : ℕ) (d : X) → i < length xs → Gains old (map f (take i xs)) mid → Gains mid (f (get_or xs i d) ∷ []) new → Gains old (map f (take (i + 1) xs)) new
gains_more_of f old mid new xs i d lt g h = subst (λ zs. Gains old zs new) (sym (map_more f xs i d lt)) (gains_both old mid new (map f (take i xs)) (f (get_or xs i d) ∷ []) g h)

-- a number that wasn't there, and one that was
pub gains_new : (old : List ℕ) (n : ℕ) → Gains old (n ∷ []) (old ++ n ∷ [])
gains_new old n = record {
  more = n ∷ [];
  grown = refl;
  each = λ y. (λ at. Contains-append_cases old (n ∷ []) y at, λ either. ⊎_elim (λ (o : Contains old y). Contains-append_left old (n ∷ []) y o) (λ (e : Contains (n ∷ []) y). Contains-append_right old (n ∷ []) y e) either);
}

pub gains_known : (old : List ℕ) (n : ℕ) → list_any (nat_eq n) old ≡ true → Gains old (n ∷ []) old
gains_known old n known = record {
  more = [];
  grown = sym (append-nil old);
  each = λ y. (λ at. inl at, λ either. ⊎_elim (λ (o : Contains old y). o) (λ (e : Contains (n ∷ []) y). subst (Contains old) (contains_one n y e) (Contains-from_any exact_unsigned_eq n old known)) either);
}

-- those that were found first keep their places
pub gains_front : (old xs new : List ℕ) → Gains old xs new → (i d : ℕ) → i < length old → get_or new i d ≡ get_or old i d
gains_front old xs new g i d lt = ap (λ zs. get_or zs i d) g.grown ∙ get_or_append_left old g.more d i lt

-- each of some numbers, from nothing
pub gains_all : (xs new : List ℕ) (i : ℕ) → length xs ≤ i → Gains [] (take i xs) new → (y : ℕ) → Contains new y ↔ Contains xs y
gains_all xs new i le g y =
    let all : take i xs ≡ xs = take_all i xs le in (
      λ at. ⊎_elim (λ (n : Contains [] y). absurd (not_in_nil y n)) (λ (t : Contains (take i xs) y). subst (λ zs. Contains zs y) all t) ((g.each y).0 at),
      λ t. (g.each y).1 (inr (subst (λ zs. Contains zs y) (sym all) t)),
    )
