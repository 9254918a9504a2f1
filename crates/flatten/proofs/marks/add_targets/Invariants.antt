use Rattle.std.proofs.Common.{◌≡◌, ◌++◌, map, drop}
use Rattle.flatten.specs.Rows.{mark_value as mark_row_value}
use Rattle.flatten.specs.Steps.Borne.{mark_values}
use Rattle.flatten.specs.Steps.Marks.{marks_of}
use Rattle.flatten.proofs.marks.add_targets.Given as goal

abbrev pub invariant-loop-pair : goal.invariant-loop-pair
invariant-loop-pair l =
    map mark_row_value l.rows.items ++ marks_of l.number (mark_values l.marks) (drop l.pair-index l.pairs)
    ≡ map mark_row_value l.initial.rows.items ++ marks_of l.number (mark_values l.marks) l.pairs
