-- Lists that are made of what is popped from another, and sets that grow.
use Rattle.std.proofs.Common.{◌≡◌, ◌⊎◌, inl, inr, ⊎_elim, ◌∙◌, ◌++◌, List, [], ◌∷◌, map, sym, ap, subst}
use Rattle.std.specs.Prelude.{◌↔◌, Contains}
use Rattle.std.proofs.lemmas.List.{map-append}
use Rattle.std.proofs.lemmas.List.Elements.{Contains-append_left, Contains-append_right, Contains-push_cases}
use Rattle.desk.proofs.Finding.{iff_trans}
use Rattle.streams.proofs.Members.{contains_head, not_in_nil}

-- what one that is left makes
abbrev pub IsLeft : {X V W : Type 0} → (X → V) → (V → W → Type 0) → List X → W → Type 0
IsLeft {V = V} g P xs w = (v : V) × Contains (map g xs) v × P v w

pub none_left : {X V W : Type 0} (g : X → V) (P : V → W → Type 0) (xs : List X) (w : W) → xs ≡ [] → IsLeft g P xs w → ⊥
none_left g P xs w e (v, at, p) = not_in_nil v (subst (λ l. Contains (map g l) v) e at)

module _ {X Y V W : Type 0} (g : X → V) (f : Y → W) (P : V → W → Type 0) where
  abbrev Left : List X → W → Type 0
  Left = IsLeft g P

  module _ (left rest : List X) (x : X) (is : left ≡ rest ++ x ∷ []) where
    split : map g left ≡ map g rest ++ g x ∷ []
    split = ap (map g) is ∙ map-append g rest (x ∷ [])

    left_cases : (w : W) → Left left w → Left rest w ⊎ P (g x) w
    left_cases w (v, at, p) = ⊎_elim (λ (h : Contains (map g rest) v). inl (v, h, p)) (λ (e : g x ≡ v). inr (subst (λ u. P u w) (sym e) p)) (Contains-push_cases (map g rest) (g x) v (subst (λ l. Contains l v) split at))

    left_rest : (w : W) → Left rest w → Left left w
    left_rest w (v, at, p) = (v, subst (λ l. Contains l v) (sym split) (Contains-append_left (map g rest) (g x ∷ []) v at), p)

    left_last : (w : W) → P (g x) w → Left left w
    left_last w p = (g x, subst (λ l. Contains l (g x)) (sym split) (Contains-append_right (map g rest) (g x ∷ []) (g x) (contains_head (g x) [])), p)

    -- it makes nothing
    pub pop_skips : (found : List Y) (w : W) (All : Type 0) → (P (g x) w → ⊥) → (Contains (map f found) w ⊎ Left left w) ↔ All → (Contains (map f found) w ⊎ Left rest w) ↔ All
    pop_skips found w All none was = iff_trans (to, back) was
      where
        to : Contains (map f found) w ⊎ Left rest w → Contains (map f found) w ⊎ Left left w
        to h = ⊎_elim (λ (c : Contains (map f found) w). inl c) (λ (l : Left rest w). inr (left_rest w l)) h

        back : Contains (map f found) w ⊎ Left left w → Contains (map f found) w ⊎ Left rest w
        back h = ⊎_elim (λ (c : Contains (map f found) w). inl c) (λ (l : Left left w). ⊎_elim (λ (r : Left rest w). inr r) (λ (p : P (g x) w). absurd (none p)) (left_cases w l)) h

    -- it makes one, which is added
    pub pop_adds : (found more : List Y) (y : Y) (w : W) (All : Type 0) → more ≡ found ++ y ∷ [] → (P (g x) w ↔ (f y ≡ w)) → (Contains (map f found) w ⊎ Left left w) ↔ All → (Contains (map f more) w ⊎ Left rest w) ↔ All
    pop_adds found more y w All same one was = iff_trans (to, back) was
      where
        grown : map f more ≡ map f found ++ f y ∷ []
        grown = ap (map f) same ∙ map-append f found (y ∷ [])

        to : Contains (map f more) w ⊎ Left rest w → Contains (map f found) w ⊎ Left left w
        to h = ⊎_elim
            (λ (c : Contains (map f more) w). ⊎_elim (λ (o : Contains (map f found) w). inl o) (λ (e : f y ≡ w). inr (left_last w (one.1 e))) (Contains-push_cases (map f found) (f y) w (subst (λ l. Contains l w) grown c)))
            (λ (l : Left rest w). inr (left_rest w l))
            h

        back : Contains (map f found) w ⊎ Left left w → Contains (map f more) w ⊎ Left rest w
        back h = ⊎_elim
            (λ (c : Contains (map f found) w). inl (subst (λ l. Contains l w) (sym grown) (Contains-append_left (map f found) (f y ∷ []) w c)))
            (λ (l : Left left w). ⊎_elim
            (λ (r : Left rest w). inr r)
            (λ (p : P (g x) w). inl (subst (λ l. Contains l w) (sym grown) (Contains-append_right (map f found) (f y ∷ []) w (subst (λ u. Contains (f y ∷ []) u) (one.0 p) (contains_head (f y) [])))))
            (left_cases w l))
            h
