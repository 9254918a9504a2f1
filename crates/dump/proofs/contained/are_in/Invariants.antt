use Rattle.std.proofs.Common.{◌≡◌}
use Rattle.std.specs.List.{list_all}
use Rattle.lsif.specs.Lent.{lent_value}
use Rattle.dump.specs.Contained.{is_in}
use Rattle.dump.proofs.contained.are_in.Given as goal

abbrev pub invariant-loop-range : goal.invariant-loop-range
invariant-loop-range l = list_all (is_in l.graph (lent_value l.document)) l.range-iterator ≡ list_all (is_in l.graph (lent_value l.document)) l.fn.ranges
