use Rattle.std.proofs.Common.{◌≡◌, ◌++◌, take}
use Rattle.sqlite.specs.Values.{bound}
use Rattle.flatten.specs.Rows.{results_value}
use Rattle.tables.specs.Columns.{kind_columns}
use Rattle.tables.proofs.kinds.bind_more.Given as goal

abbrev pub invariant-loop-kind : goal.invariant-loop-kind
invariant-loop-kind l =
    bound l.values.items ≡ bound l.fn.values.items ++ kind_columns (take l.kind-index l.kind-items) (results_value l.results)
