-- A chain that ends has no more links than there are pairs.
use Rattle.std.proofs.Common.{◌≡◌, ◌⊎◌, inl, inr, ⊎_elim, ℕ, suc, ◌+◌, ◌<◌, ◌≤◌, Bool, true, false, not, cond, List, [], ◌∷◌, length, refl, sym, ap, ◌∙◌, subst, arith}
use Rattle.std.specs.Prelude.{Option, Some, None, Contains, filter}
use Rattle.lsif.specs.Element.{IdValue, same_id}
use Rattle.streams.proofs.Members.{contains_cases, contains_head, contains_tail, not_in_nil}
use Rattle.dump.proofs.SameIds.{same_id_eq}
use Rattle.dump.specs.Walks.{Pair, first_to, first_of_list, IsChain, ends, links}

pub unique : (pairs : List Pair) (x : IdValue) (xs zs : List IdValue) → IsChain pairs x xs → IsChain pairs x zs → xs ≡ zs
unique pairs x xs zs (ends e) (ends f) = refl
unique pairs x xs zs (ends e) (links {y = y} f c) = let k : ◌≡◌ {A = Option IdValue} None (Some y) = sym e ∙ f in cc
unique pairs x xs zs (links {y = y} e c) (ends f) = let k : ◌≡◌ {A = Option IdValue} None (Some y) = sym f ∙ e in cc
unique pairs x xs zs (links {y = y} {ys = ys} e c) (links {y = w} {ys = ws} f d) =
    let k : Some y ≡ Some w = sym e ∙ f in
    let same : y ≡ w = cc in
    ap (λ l. x ∷ l) (unique pairs y ys ws c (subst (λ v. IsChain pairs v ws) (sym same) d))

-- from a member on there is a chain too
pub suffix : (pairs : List Pair) (y : IdValue) (ys : List IdValue) (x : IdValue) → IsChain pairs y ys → Contains ys x → (zs : List IdValue) × IsChain pairs x zs × (length zs ≤ length ys)
suffix pairs y ys x (ends e) at = ⊎_elim (λ (s : y ≡ x). (y ∷ [], subst (λ v. IsChain pairs v (y ∷ [])) s (ends e), omega arith)) (λ (n : Contains [] x). absurd (not_in_nil x n)) (contains_cases y [] x at)
suffix pairs y ys x (links {y = w} {ys = ws} e c) at = ⊎_elim
    (λ (s : y ≡ x). (y ∷ ws, subst (λ v. IsChain pairs v (y ∷ ws)) s (links e c), omega arith))
    (λ (t : Contains ws x). let r = suffix pairs w ws x c t in (r.0, r.1, omega (arith, r.2)))
    (contains_cases y ws x at)

-- a member doesn't come again
no_return : (pairs : List Pair) (x y : IdValue) (ys : List IdValue) → first_to pairs x ≡ Some y → IsChain pairs y ys → Contains ys x → ⊥
no_return pairs x y ys e c at =
    let r = suffix pairs y ys x c at in
    let same = unique pairs x (x ∷ ys) r.0 (links e c) r.1 in
    omega (arith, r.2, ap length same)

abbrev others : IdValue → List Pair → List Pair
others x = filter (λ p. not (same_id p.0 x))

-- pairs from elsewhere don't matter
first_others_by : (p : Pair) (ps : List Pair) (x z : IdValue) → (z ≡ x → ⊥) → first_to (others x ps) z ≡ first_to ps z → (b d : Bool) → (same_id p.0 x) ≡ b → (same_id p.0 z) ≡ d → first_to (cond (not b) (p ∷ others x ps) (others x ps)) z ≡ cond d (Some p.1) (first_to ps z)
first_others_by p ps x z apart rest true true e f = absurd (apart (sym (same_id_eq p.0 z f) ∙ same_id_eq p.0 x e))
first_others_by p ps x z apart rest true false e f = rest
first_others_by p ps x z apart rest false d e f = ap (λ k. cond k (Some p.1) (first_to (others x ps) z)) f ∙ ap (λ o. cond d (Some p.1) o) rest

first_others : (pairs : List Pair) (x z : IdValue) → (z ≡ x → ⊥) → first_to (others x pairs) z ≡ first_to pairs z
first_others [] x z apart = refl
first_others (p ∷ ps) x z apart = first_others_by p ps x z apart (first_others ps x z apart) (same_id p.0 x) (same_id p.0 z) refl refl

without : (pairs : List Pair) (x y : IdValue) (ys : List IdValue) → (Contains ys x → ⊥) → IsChain pairs y ys → IsChain (others x pairs) y ys
without pairs x y ys never (ends e) = ends (first_others pairs x y (λ s. never (subst (λ v. Contains (y ∷ []) v) s (contains_head y []))) ∙ e)
without pairs x y ys never (links {y = w} {ys = ws} e c) =
    links (first_others pairs x y (λ s. never (subst (λ v. Contains (y ∷ ws) v) s (contains_head y ws))) ∙ e) (without pairs x w ws (λ at. never (contains_tail y ws x at)) c)

no_more_by : (b : Bool) (p : Pair) (xs : List Pair) (n : ℕ) → length xs ≤ n → length (cond (not b) (p ∷ xs) xs) ≤ suc n
no_more_by true p xs n h = omega arith
no_more_by false p xs n h = omega arith

no_more : (pairs : List Pair) (x : IdValue) → length (others x pairs) ≤ length pairs
no_more [] x = omega arith
no_more (p ∷ ps) x = no_more_by (same_id p.0 x) p (others x ps) (length ps) (no_more ps x)

fewer_by : (b : Bool) (p : Pair) (ps xs : List Pair) (x y : IdValue) → length xs ≤ length ps → (first_to ps x ≡ Some y → length xs < length ps) → cond b (Some p.1) (first_to ps x) ≡ Some y → length (cond (not b) (p ∷ xs) xs) < suc (length ps)
fewer_by true p ps xs x y h less e = omega arith
fewer_by false p ps xs x y h less e = omega (arith, less e)

fewer : (pairs : List Pair) (x y : IdValue) → first_to pairs x ≡ Some y → length (others x pairs) < length pairs
fewer [] x y e = absurd (cc)
fewer (p ∷ ps) x y e = fewer_by (same_id p.0 x) p ps (others x ps) x y (no_more ps x) (fewer ps x y) e

-- the two cases of a chain
pub chain_cases : (pairs : List Pair) (x z : IdValue) (zs : List IdValue) → IsChain pairs x (z ∷ zs) → (x ≡ z) × (((first_to pairs x ≡ None) × (zs ≡ [])) ⊎ ((y : IdValue) × (first_to pairs x ≡ Some y) × IsChain pairs y zs))
chain_cases pairs x z zs (ends e) = (refl, inl (e, refl))
chain_cases pairs x z zs (links {y = y} e c) = (refl, inr (y, e, c))

pub short : (xs : List IdValue) (pairs : List Pair) (x : IdValue) → IsChain pairs x xs → length xs ≤ length pairs + 1
short [] pairs x c = omega arith
short (z ∷ zs) pairs x c = ⊎_elim
    (λ (h : (first_to pairs x ≡ None) × (zs ≡ [])). omega (arith, ap length h.1))
    (λ (h : (y : IdValue) × (first_to pairs x ≡ Some y) × IsChain pairs y zs). omega (arith, short zs (others x pairs) h.0 (without pairs x h.0 zs (no_return pairs x h.0 zs h.1 h.2) h.2), fewer pairs x h.0 h.1))
    (chain_cases pairs x z zs c).1

-- what is required of a chain that is followed, from `at` on, after some steps
pub record Following (next binds : List Pair) (from at : IdValue) (steps : ℕ) : Type 0 where
  pub rest : List IdValue
  pub chain : IsChain next at rest
  pub room : length rest + steps ≤ length next + 1
  pub same : (xs : List IdValue) → IsChain next from xs → first_of_list binds xs ≡ first_of_list binds rest

pub follows : (next binds : List Pair) (from : IdValue) (xs : List IdValue) → IsChain next from xs → Following next binds from from 0
follows next binds from xs c = record { rest = xs; chain = c; room = omega (arith, short xs next from c); same = λ ys d. ap (first_of_list binds) (unique next from ys xs d c) }

-- what a chain's first bound member is bound to, by its head
abbrev first_or : List Pair → Option IdValue → List IdValue → Option IdValue
first_or binds o xs = elim o as (λ _. Option IdValue) [ Some r ↦ Some r | None ↦ first_of_list binds xs ]

head_bound : (next binds : List Pair) (x : IdValue) (xs : List IdValue) (r : IdValue) → IsChain next x xs → first_to binds x ≡ Some r → first_of_list binds xs ≡ Some r
head_bound next binds x xs r (ends d) e = ap (λ o. first_or binds o []) e
head_bound next binds x xs r (links {ys = ys} d c) e = ap (λ o. first_or binds o ys) e

head_last : (next binds : List Pair) (x : IdValue) (xs : List IdValue) → IsChain next x xs → first_to binds x ≡ None → first_to next x ≡ None → first_of_list binds xs ≡ None
head_last next binds x xs (ends d) e n = ap (λ o. first_or binds o []) e
head_last next binds x xs (links {y = y} {ys = ys} d c) e n = let k : ◌≡◌ {A = Option IdValue} None (Some y) = sym n ∙ d in cc

head_unbound : (next binds : List Pair) (x y : IdValue) (xs : List IdValue) → IsChain next x xs → first_to binds x ≡ None → first_to next x ≡ Some y → (ys : List IdValue) × IsChain next y ys × (first_of_list binds xs ≡ first_of_list binds ys) × (length xs ≡ suc (length ys))
head_unbound next binds x y xs (ends d) e n = let k : ◌≡◌ {A = Option IdValue} None (Some y) = sym d ∙ n in cc
head_unbound next binds x y xs (links {y = w} {ys = ys} d c) e n =
    let k : Some w ≡ Some y = sym d ∙ n in
    let same : w ≡ y = cc in
    (ys, subst (λ v. IsChain next v ys) same c, ap (λ o. first_or binds o ys) e, refl)

pub chain_head : (ps : List Pair) (x : IdValue) (xs : List IdValue) → IsChain ps x xs → Contains xs x
chain_head ps x xs (ends e) = contains_head x []
chain_head ps x xs (links {ys = ys} e c) = contains_head x ys

pub no_chain : (next : List Pair) (x : IdValue) → IsChain next x [] → ⊥
no_chain next x c = elim c [ ]

one_left : (next binds : List Pair) (x : IdValue) (xs : List IdValue) → IsChain next x xs → length xs ≤ 1 → first_of_list binds xs ≡ first_to binds x
one_left next binds x xs (ends d) h = is_itself (first_to binds x)
  where
    is_itself : (o : Option IdValue) → first_or binds o [] ≡ o
    is_itself (Some r) = refl
    is_itself None = refl
one_left next binds x xs (links {ys = []} d c) h = absurd (no_chain next _ c)
one_left next binds x xs (links {ys = y ∷ ys} d c) h = absurd (omega (arith, h))

module _ (next binds : List Pair) (from at : IdValue) (steps : ℕ) (i : Following next binds from at steps) where
  pub found : (r : IdValue) → Some r ≡ first_to binds at → (xs : List IdValue) → IsChain next from xs → Some r ≡ first_of_list binds xs
  found r e xs c = sym (i.same xs c ∙ head_bound next binds at i.rest r i.chain (sym e))

  pub none : None ≡ first_to binds at → None ≡ first_to next at → (xs : List IdValue) → IsChain next from xs → None ≡ first_of_list binds xs
  none e n xs c = sym (i.same xs c ∙ head_last next binds at i.rest i.chain (sym e) (sym n))

  pub on : (to : IdValue) → None ≡ first_to binds at → Some to ≡ first_to next at → Following next binds from to (steps + 1)
  on to e n =
      let r = head_unbound next binds at to i.rest i.chain (sym e) (sym n) in
      record { rest = r.0; chain = r.1; room = omega (arith, i.room, r.3); same = λ xs c. i.same xs c ∙ r.2 }

  pub last : length next ≤ steps → (xs : List IdValue) → IsChain next from xs → first_to binds at ≡ first_of_list binds xs
  last all xs c = sym (i.same xs c ∙ one_left next binds at i.rest i.chain (omega (arith, i.room)))
