-- Bytes that are written one part after another.
use Rattle.std.proofs.Common.{◌≡◌, ℕ, ◌+◌, ◌<◌, List, [], ◌++◌, length, take, drop, Option, Some, None, refl, sym, ◌∙◌, ap, append_assoc, append-nil, arith, length-drop}
use Rattle.std.proofs.Math.Seq.{take-add}
use Rattle.std.proofs.lemmas.Bool.{ne_eqb}
use Rattle.std.proofs.lemmas.Bool.{lt-ltb}
use Rattle.std.specs.Prelude.{if◌then◌else◌, ◌==◌, ◌&&◌}
use Rattle.streams.specs.Streams.{Gains, StaysOrHides}
use Rattle.std.proofs.Common.{nat_lt}
use Rattle.streams.specs.Sending.{GainsOrHides}

pub gains_refl : (a : Option (List ℕ)) → Gains a a []
gains_refl None = tt
gains_refl (Some xs) = ap Some (sym (append-nil xs))

pub gains_more : (a b c : Option (List ℕ)) (p q : List ℕ) → Gains a b p → Gains b c q → Gains a c (p ++ q)
gains_more None b c p q f g = tt
gains_more (Some xs) b c p q f g = let h = rw f at g in h ∙ ap Some (append_assoc xs p q)

pub gains_hides : (a b c : Option (List ℕ)) (p : List ℕ) → Gains a b p → StaysOrHides b c → GainsOrHides a c p
gains_hides None b c p f h = tt
gains_hides (Some xs) b c p f h = let k = rw f at h in k

pub sent_more : (bytes : List ℕ) (sent n : ℕ) → take sent bytes ++ take n (drop sent bytes) ≡ take (sent + n) bytes
sent_more bytes sent n = sym (take-add sent n bytes)

pub zero_writes_kept : (old new n : ℕ) (bytes : List ℕ) → new ≡ (if n == 0 && nat_lt 0 (length bytes) then old + 1 else old) → (n ≡ 0 → ⊥) → new ≡ old
zero_writes_kept old new n bytes h some = h ∙ rw (ne_eqb n 0 some) refl

pub one_zero_write : (old new n : ℕ) (bytes : List ℕ) → new ≡ (if n == 0 && nat_lt 0 (length bytes) then old + 1 else old) → n ≡ 0 → 0 < length bytes → new ≡ old + 1
one_zero_write old new n bytes h none lt = let k = rw none at h in k ∙ rw (lt-ltb 0 (length bytes) lt) refl

-- after a beginning that isn't all there is a rest
pub has_rest : (bytes : List ℕ) (sent : ℕ) → sent < length bytes → drop sent bytes ≡ [] → ⊥
has_rest bytes sent lt none = let e = sym (length-drop sent bytes) ∙ ap length none in omega (arith, lt, e)
