use Rattle.std.proofs.Common.{◌≡◌, map, drop}
use Rattle.std.specs.List.{All}
use Rattle.lsif.specs.Element.{element_value}
use Rattle.flatten.specs.Rows.{hover_value, range_value}
use Rattle.flatten.specs.Steps.Chains.{AreChains}
use Rattle.flatten.specs.Steps.Documents.{hovers_in}
use Rattle.flatten.specs.Steps.Parents.{IsWithinLimit, interval_value, intervals_in}
use Rattle.flatten.specs.Steps.Ranges.{IsFoundRange, range_lines}
use Rattle.flatten.proofs.OfKinds.{AreTaken, HasSaid}
use Rattle.flatten.proofs.kinds.add_all.Given as goal

abbrev pub invariant-loop-element : goal.invariant-loop-element
invariant-loop-element l =
    let rest = map element_value (drop l.element-index l.element-items) in
    AreTaken l.dump.elements rest l.gathered.kinds × (l.gathered.kinds.dump.now ≡ l.dump)
    × HasSaid (range_lines l.dump.elements) l.dump.elements rest (map (λ r. r.line) (map range_value l.gathered.ranges.items))
    × All (IsFoundRange l.dump.elements) (map range_value l.gathered.ranges.items) × AreChains l.chains × (l.chains.dump.now ≡ l.dump)
    × HasSaid (hovers_in l.dump.elements) l.dump.elements rest (map hover_value l.gathered.hovers.items)
    × HasSaid (intervals_in l.dump.elements) l.dump.elements rest (map interval_value l.gathered.intervals.items)
    × (All IsWithinLimit rest → All IsWithinLimit l.dump.elements)
