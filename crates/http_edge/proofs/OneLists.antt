-- A stream is cut into one list of messages.
use Rattle.std.proofs.Common.{◌≡◌, ℕ, inl, inr, Bool, true, false, List, [], ◌∷◌, ◌++◌, refl, sym, ◌∙◌, ap, subst, suc, zero}
use Rattle.http_edge.specs.Messages.{First, ends, Unless, Requests, IsPrefix, Sure}
use Rattle.http_edge.specs.Requests.{MessageValue, refused}
use Rattle.http_edge.proofs.MessageLemmas.{settles-unique, decided, unended-unique}
use Rattle.http_edge.proofs.Sures.{settled_some}

-- an ended input has one first message
one_first : (bytes : List ℕ) (a b : MessageValue) (r q : List ℕ) → First bytes a r → First bytes b q → (a ≡ b) × (r ≡ q)
one_first bytes a b r q f g = elim f [
  | inl s ↦ elim g [
    | inl t ↦ settles-unique bytes a b r q s t
    | inr v ↦ absurd (decided bytes a r v.0 s v.1)
  ]
  | inr u ↦ elim g [
    | inl t ↦ absurd (decided bytes b q u.0 t u.1)
    | inr v ↦ (u.3 ∙ ap refused (unended-unique bytes u.0 v.0 u.1 v.1) ∙ sym v.3, u.4 ∙ sym v.4)
  ]
]

some_bytes : (bytes : List ℕ) (a : MessageValue) (r : List ℕ) → First bytes a r → bytes ≡ [] → ⊥
some_bytes bytes a r f e = elim f [
  | inl s ↦ settled_some bytes a r s e
  | inr u ↦ u.2 e
]

both_by : (b : Bool) (xs ys : List MessageValue) (P Q : Type 0) → Unless b xs P → Unless b ys Q → (P → Q → xs ≡ ys) → xs ≡ ys
both_by true xs ys P Q f g same = f ∙ sym g
both_by false xs ys P Q f g same = same f g

pub one_list : (limit : ℕ) (bytes : List ℕ) (messages others : List MessageValue) → Requests limit bytes messages → Requests limit bytes others → messages ≡ others
one_list zero bytes messages others f g = f ∙ sym g
one_list (suc limit) bytes [] [] f g = refl
one_list (suc limit) bytes [] (b ∷ others) f g = absurd (some_bytes bytes b g.0 g.1 f)
one_list (suc limit) bytes (a ∷ messages) [] f g = absurd (some_bytes bytes a f.0 f.1 g)
one_list (suc limit) bytes (a ∷ messages) (b ∷ others) f g =
    let one = one_first bytes a b f.0 g.0 f.1 g.1 in
    let rest : messages ≡ others = both_by (ends a) messages others (Requests limit f.0 messages) (Requests limit g.0 others) f.2
    (subst (λ (c : MessageValue). Unless (ends c) others (Requests limit g.0 others)) (sym one.0) g.2)
    (λ h k. one_list limit f.0 messages others h (subst (λ (l : List ℕ). Requests limit l others) (sym one.1) k)) in
    λ i. one.0 i ∷ rest i

prefix_same : (xs ys : List MessageValue) → IsPrefix xs ys → IsPrefix ys xs → xs ≡ ys
prefix_same [] [] f g = refl
prefix_same [] (y ∷ ys) f g = let no : [] ≡ y ∷ (ys ++ g.0) = g.1 in cc
prefix_same (x ∷ xs) [] f g = let no : [] ≡ x ∷ (xs ++ f.0) = f.1 in cc
prefix_same (x ∷ xs) (y ∷ ys) f g =
    let head : y ≡ x = cc (f.1) in
    let front : ys ≡ xs ++ f.0 = cc (f.1) in
    let back : xs ≡ ys ++ g.0 = cc (g.1) in
    let rest = prefix_same xs ys (f.0, front) (g.0, back) in
    λ i. sym head i ∷ rest i

pub one_sure : (limit : ℕ) (bytes : List ℕ) (messages others : List MessageValue) → Sure limit bytes messages → Sure limit bytes others → messages ≡ others
one_sure limit bytes messages others f g = prefix_same messages others (g.1 messages f.0) (f.1 others g.0)
