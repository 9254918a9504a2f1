use Rattle.std.proofs.Common.{◌≡◌, ◌++◌, map, drop, get_or}
use Rattle.std.specs.Prelude.{None}
use Rattle.std.specs.List.{flat_map}
use Rattle.flatten.specs.Rows.{mark_value as mark_row_value}
use Rattle.flatten.specs.Steps.Borne.{mark_values}
use Rattle.flatten.specs.Steps.Marks.{mark_of}
use Rattle.flatten.proofs.marks.borne_marks.Given as goal

abbrev pub invariant-loop-pair : goal.invariant-loop-pair
invariant-loop-pair l =
    map mark_row_value l.rows.items ++ flat_map (λ p. mark_of p.0 (get_or (mark_values l.marks) p.1 None)) (drop l.pair-index l.pairs)
    ≡ flat_map (λ p. mark_of p.0 (get_or (mark_values l.marks) p.1 None)) l.pairs
