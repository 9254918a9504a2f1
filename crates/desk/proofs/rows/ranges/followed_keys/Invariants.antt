use Rattle.std.proofs.Common.{◌≡◌, ◌⊎◌, ℕ, List, true, length, map, string_bytes}
use Rattle.std.specs.Prelude.{◌↔◌, Contains}
use Rattle.lsif.specs.RequestKinds.{follows}
use Rattle.machine.specs.Selections.{MarkText, mark_found}
use Rattle.desk.proofs.Popped.{IsLeft}
use Rattle.desk.proofs.rows.ranges.followed_keys.Given as goal

abbrev pub invariant-loop-mark : goal.invariant-loop-mark
invariant-loop-mark l =
    let Makes = λ (mark : MarkText) (text : List ℕ). (follows l.request mark.kind ≡ true) × (mark.key ≡ text) in
    (text : List ℕ) → (Contains (map string_bytes l.keys.items) text ⊎ IsLeft mark_found Makes l.marks.items text) ↔ IsLeft mark_found Makes l.fn.marks.items text

abbrev pub decreases-loop-mark : goal.decreases-loop-mark
decreases-loop-mark l = length l.marks.items
