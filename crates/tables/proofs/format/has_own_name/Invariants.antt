use Rattle.std.proofs.Common.{◌≡◌}
use Rattle.tables.proofs.format.has_own_name.Given as goal

abbrev pub invariant-loop-name : goal.invariant-loop-name
invariant-loop-name l = record {
  same : l.schema ≡ l.fn.schema;
}
