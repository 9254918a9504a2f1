use Rattle.std.proofs.Common.{◌≡◌, [], map, take}
use Rattle.flatten.specs.Rows.{mark_value as mark_row_value}
use Rattle.flatten.specs.Steps.Chains.{AreChains}
use Rattle.flatten.specs.Steps.Kinds.{said}
use Rattle.flatten.specs.Steps.Borne.{mark_values}
use Rattle.flatten.specs.Steps.Marks.{IsMarkOfRange}
use Rattle.flatten.specs.Steps.Tables.{Adds, OfOne}
use Rattle.flatten.proofs.marks.mark_rows.Given as goal

abbrev pub invariant-loop-element : goal.invariant-loop-element
invariant-loop-element l =
    Adds [] (OfOne (IsMarkOfRange l.initial.chains.dump.now.elements l.initial.chains.borne.items (mark_values l.marks)) (take l.element-index (map said l.ranges))) (map mark_row_value l.rows.items)
    × AreChains l.chains × (l.chains.dump ≡ l.initial.chains.dump) × (l.chains.borne ≡ l.initial.chains.borne)
