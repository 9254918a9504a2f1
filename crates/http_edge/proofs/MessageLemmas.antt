-- Laws of how bytes are cut into messages.
use Rattle.std.proofs.Common.{◌≡◌, ℕ, ◌<◌, ◌≤◌, inl, inr, Bool, true, false, List, [], ◌∷◌, ◌++◌, length, take, Option, Some, None, refl, sym, ◌∙◌, ap, arith, subst, suc, zero, length-append, lit<}
use Rattle.std.proofs.lemmas.List.{take-append-le, drop-append-le, length-take}
use Rattle.std.proofs.Math.Seq.{take-nil}
use Rattle.std.proofs.lemmas.Grind.{common_steps}
use Rattle.httparse.proofs.GrammarLemmas.{request_unique}
use Rattle.http_edge.specs.Heads.{find_head, HeadValue, rejected, request_head, said_by, IsSaidBy, SaysAt, SettlesHeadAt, SettlesHead, IsHeadUnended}
use Rattle.http_edge.specs.Limits.{head_limit}
use Rattle.http_edge.specs.Messages.{HasBody, Settles, IsUnended}
use Rattle.http_edge.specs.Requests.{MessageValue}
use Rattle.http_edge.specs.declared.refusal.Refusal.{Refusal}
use Rattle.http_edge.proofs.Ends.{find_head-within, find_head-append}

pub reads_unique : (head : List ℕ) (a b : HeadValue) → IsSaidBy head a → IsSaidBy head b → a ≡ b
reads_unique head a b p q = elim p [
  | inl x ↦ elim q [
    | inl y ↦
        let one = (request_unique head x.0 y.0 [] [] x.1.0 y.1.0).0 in
        x.2 ∙ ap said_by one ∙ sym y.2
    | inr y ↦ absurd (y.0 x.0 x.1)
  ]
  | inr x ↦ elim q [
    | inl y ↦ absurd (x.0 y.0 y.1)
    | inr y ↦ x.1 ∙ sym y.1
  ]
]

says_unique : (late : Bool) (head : List ℕ) (a b : HeadValue) → SaysAt late head a → SaysAt late head b → a ≡ b
says_unique true head a b p q = p ∙ sym q
says_unique false head a b p q = reads_unique head a b p q

at_unique : (o : Option ℕ) (xs : List ℕ) (a b : HeadValue) (r q : List ℕ) → SettlesHeadAt o xs a r → SettlesHeadAt o xs b q → (a ≡ b) × (r ≡ q)
at_unique None xs a b r q s t = (s.1 ∙ sym t.1, s.2 ∙ sym t.2)
at_unique (Some n) xs a b r q s t = (says_unique _ (take n xs) a b s.0 t.0, s.1 ∙ sym t.1)

-- bytes settle one head
pub head-unique : (xs : List ℕ) (a b : HeadValue) (r q : List ℕ) → SettlesHead xs a r → SettlesHead xs b q → (a ≡ b) × (r ≡ q)
unfolding SettlesHead
head-unique xs a b r q s t = at_unique (find_head (take head_limit xs)) xs a b r q s t

at_append : (o p : Option ℕ) (xs ys : List ℕ) (message : HeadValue) (rest : List ℕ)
    → ((n : ℕ) → o ≡ Some n → (p ≡ Some n) × (n ≤ length xs)) → (o ≡ None → head_limit ≤ length xs → p ≡ None)
    → SettlesHeadAt o xs message rest → SettlesHeadAt p (xs ++ ys) message (rest ++ ys)
at_append None p xs ys message rest some none s =
    rw (none refl s.0) (let l = length-append xs ys in omega arith, s.1, ap (λ l. l ++ ys) s.2)
at_append (Some n) p xs ys message rest some none s =
    let at = some n refl in
    let fits = at.1 in
    rw at.0 (rw (take-append-le n xs ys fits) s.0, rw (drop-append-le n xs ys fits) (ap (λ l. l ++ ys) s.1))

take_cut : (xs ys : List ℕ) (k : ℕ) → (zs : List ℕ) × (take k (xs ++ ys) ≡ take k xs ++ zs)
take_cut [] ys k = (take k ys, rw (take-nil k) refl)
take_cut (x ∷ xs) ys zero = ([], refl)
take_cut (x ∷ xs) ys (suc k) = let r = take_cut xs ys k in (r.0, ap (λ l. x ∷ l) r.1)

late_append : (k : ℕ) (xs ys : List ℕ) (n : ℕ) → find_head (take k xs) ≡ Some n → (find_head (take k (xs ++ ys)) ≡ Some n) × (n ≤ length xs)
late_append k xs ys n h =
    let cut = take_cut xs ys k in (
      rw cut.1 (find_head-append (take k xs) cut.0 n h),
      (let w = find_head-within (take k xs) n h in let l = length-take k xs in omega arith),
    )

late_none : (k : ℕ) (xs ys : List ℕ) → k ≤ length xs → find_head (take k xs) ≡ None → find_head (take k (xs ++ ys)) ≡ None
late_none k xs ys long h = rw (take-append-le k xs ys long) h

-- and whatever follows leaves it
pub head-append : (xs ys : List ℕ) (message : HeadValue) (rest : List ℕ) → SettlesHead xs message rest → SettlesHead (xs ++ ys) message (rest ++ ys)
unfolding SettlesHead
head-append xs ys message rest s =
    at_append (find_head (take head_limit xs)) (find_head (take head_limit (xs ++ ys))) xs ys message rest
    (λ n e. late_append head_limit xs ys n e) (λ e long. late_none head_limit xs ys long e) s

head_decided_at : (o : Option ℕ) (xs : List ℕ) (head : HeadValue) (r : List ℕ) → o ≡ None → length xs < head_limit → SettlesHeadAt o xs head r → ⊥
head_decided_at None xs head r e short s = let long = s.0 in omega arith
head_decided_at (Some n) xs head r e short s = cc e

front_short : (xs : List ℕ) (k : ℕ) → length xs < k → take k xs ≡ xs
front_short xs k h = grind (arith, common_steps)

-- an open head isn't settled
pub head-decided : (xs : List ℕ) (head : HeadValue) (r : List ℕ) → SettlesHead xs head r → IsHeadUnended xs → ⊥
unfolding SettlesHead
head-decided xs head r s u = head_decided_at (find_head (take head_limit xs)) xs head r (ap find_head (front_short xs head_limit u.0) ∙ u.1) u.0 s

pub body-append : (head : HeadValue) (bytes : List ℕ) (message : MessageValue) (rest more : List ℕ) → HasBody head bytes message rest → HasBody head (bytes ++ more) message (rest ++ more)
body-append (rejected refusal) bytes message rest more f = (f.0, ap (λ l. l ++ more) f.1)
body-append (request_head method target len) bytes message rest more f = (
  (let l = length-append bytes more in let h = f.0 in omega arith),
  rw (take-append-le len bytes more f.0) f.1,
  rw (drop-append-le len bytes more f.0) (ap (λ l. l ++ more) f.2),
)

pub body-unique : (head : HeadValue) (bytes : List ℕ) (a b : MessageValue) (r q : List ℕ) → HasBody head bytes a r → HasBody head bytes b q → (a ≡ b) × (r ≡ q)
body-unique (rejected refusal) bytes a b r q f g = (f.0 ∙ sym g.0, f.1 ∙ sym g.1)
body-unique (request_head method target len) bytes a b r q f g = (f.1 ∙ sym g.1, f.2 ∙ sym g.2)

-- whatever follows leaves a settled message
pub settles-append : (xs more : List ℕ) (message : MessageValue) (rest : List ℕ) → Settles xs message rest → Settles (xs ++ more) message (rest ++ more)
settles-append xs more message rest s = (s.0, s.1 ++ more, head-append xs more s.0 s.1 s.2, body-append s.0 s.1 message rest more s.3)

-- bytes settle one message
pub settles-unique : (xs : List ℕ) (a b : MessageValue) (r q : List ℕ) → Settles xs a r → Settles xs b q → (a ≡ b) × (r ≡ q)
settles-unique xs a b r q s t =
    let one = head-unique xs s.0 t.0 s.1 t.1 s.2 t.2 in
    body-unique t.0 t.1 a b r q (rw (← one.0, ← one.1) s.3) t.3

body_decided : (head : HeadValue) (method target : List ℕ) (len : ℕ) (after : List ℕ) (message : MessageValue) (rest : List ℕ) → head ≡ request_head method target len
    → HasBody head after message rest → length after < len → ⊥
body_decided (rejected refusal) method target len after message rest e f short = cc e
body_decided (request_head m t n) method target len after message rest e f short = let same : n ≡ len = cc e in let long = f.0 in omega arith

-- what is settled isn't undecided
pub decided : (xs : List ℕ) (message : MessageValue) (r : List ℕ) (refusal : Refusal) → Settles xs message r → IsUnended xs refusal → ⊥
decided xs message r refusal s u = elim u [
  | inl h ↦ head-decided xs s.0 s.1 s.2 h.0
  | inr b ↦
      let part = b.0 in
      let one = head-unique xs s.0 (request_head part.0 part.1 part.2) s.1 part.3 s.2 part.4 in
      body_decided s.0 part.0 part.1 part.2 s.1 message r one.0 s.3 (rw one.1 part.5)
]

-- an end of the input is refused by one refusal
pub unended-unique : (xs : List ℕ) (a b : Refusal) → IsUnended xs a → IsUnended xs b → a ≡ b
unended-unique xs a b u v = elim u [
  | inl h ↦ elim v [
    | inl k ↦ h.1 ∙ sym k.1
    | inr k ↦ absurd (head-decided xs _ _ k.0.4 h.0)
  ]
  | inr h ↦ elim v [
    | inl k ↦ absurd (head-decided xs _ _ h.0.4 k.0)
    | inr k ↦ h.1 ∙ sym k.1
  ]
]

pub empty_head_unended : IsHeadUnended []
unfolding head_limit find_head
empty_head_unended = (lit< tt, refl)

pub head_some : (xs : List ℕ) (head : HeadValue) (r : List ℕ) → SettlesHead xs head r → xs ≡ [] → ⊥
head_some xs head r s e = head-decided [] head r (subst (λ (l : List ℕ). SettlesHead l head r) e s) empty_head_unended
