-- Bytes that move, one part after another.
use Rattle.std.proofs.Common.{◌≡◌, ℕ, ◌+◌, inl, inr, List, [], ◌++◌, take, drop, Option, Some, None, refl, sym, ◌∙◌, ap, append_assoc, append-nil}
use Rattle.std.proofs.Math.Seq.{take-add}
use Rattle.streams.specs.Streams.{Output, Moves, Gains}
use Rattle.streams.specs.Sending.{GainsOrHides, Writes, WritesTo}
use Rattle.http_edge.specs.Serving.{MovesOrHides}

pub gains_refl : (a : Option (List ℕ)) → Gains a a []
gains_refl None = tt
gains_refl (Some xs) = ap Some (sym (append-nil xs))

pub gains_more : (a b c : Option (List ℕ)) (p q : List ℕ) → Gains a b p → Gains b c q → Gains a c (p ++ q)
gains_more None b c p q f g = tt
gains_more (Some xs) b c p q f g = let h = rw f at g in h ∙ ap Some (append_assoc xs p q)

pub gains_or_more : (a b c : Option (List ℕ)) (p q : List ℕ) → Gains a b p → GainsOrHides b c q → GainsOrHides a c (p ++ q)
gains_or_more None b c p q f g = tt
gains_or_more (Some xs) b c p q f g = let h = rw f at g in elim h [ inl e ↦ inl (e ∙ ap Some (append_assoc xs p q)) | inr e ↦ inr e ]

pub writes_nothing : (a : Output) → Writes a [] a
writes_nothing a = (gains_refl a.taken, (refl, refl))

pub writes_more : (a b c : Output) (p q : List ℕ) → Writes a p b → Writes b q c → Writes a (p ++ q) c
writes_more a b c p q f g = (gains_more a.taken b.taken c.taken p q f.0 g.0, (g.1.0 ∙ f.1.0, g.1.1 ∙ f.1.1))

pub writes_to_more : (a b c : Output) (p q : List ℕ) → Writes a p b → WritesTo b q c → WritesTo a (p ++ q) c
writes_to_more a b c p q f g = elim g [
  | inl h ↦ inl (gains_or_more a.taken b.taken c.taken p q f.0 h.0, (h.1.0 ∙ ap (λ n. n + 1) f.1.0, h.1.1 ∙ f.1.1))
  | inr h ↦ inr (gains_more a.taken b.taken c.taken p q f.0 h.0, (h.1.0 ∙ f.1.0, h.1.1 ∙ ap (λ n. n + 1) f.1.1))
]

pub moves_refl : (a : Option (List ℕ)) → Moves a a []
moves_refl None = tt
moves_refl (Some xs) = (xs, refl, refl)

pub moves_more : (a b c : Option (List ℕ)) (p q : List ℕ) → Moves a b p → Moves b c q → Moves a c (p ++ q)
moves_more None b c p q f g = tt
moves_more (Some xs) b c p q f g = let h = rw f.1 at g in (h.0, h.1, f.2 ∙ ap (λ l. p ++ l) h.2 ∙ sym (append_assoc p q h.0))

pub moves_or_more : (a b c : Option (List ℕ)) (p q : List ℕ) → Moves a b p → MovesOrHides b c q → MovesOrHides a c (p ++ q)
moves_or_more None b c p q f g = tt
moves_or_more (Some xs) b c p q f g = let h = rw f.1 at g in (h.0, h.1, f.2 ∙ ap (λ l. p ++ l) h.2 ∙ sym (append_assoc p q h.0))

pub sent_more : (bytes : List ℕ) (sent n : ℕ) → take sent bytes ++ take n (drop sent bytes) ≡ take (sent + n) bytes
sent_more bytes sent n = sym (take-add sent n bytes)
