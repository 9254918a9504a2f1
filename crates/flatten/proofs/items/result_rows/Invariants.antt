use Rattle.std.proofs.Common.{map, take}
use Rattle.dump.specs.Places.{IsListing}
use Rattle.flatten.specs.Flat.{item_cmp}
use Rattle.flatten.specs.Rows.{item_value}
use Rattle.flatten.specs.Steps.Items.{IsReachedRow}
use Rattle.flatten.specs.Steps.Tables.{OfOne}
use Rattle.flatten.proofs.items.result_rows.Given as goal

abbrev pub invariant-loop-number : goal.invariant-loop-number
invariant-loop-number l =
    IsListing item_cmp (OfOne (λ n. IsReachedRow n l.items) (take l.number-index l.results)) (map item_value l.rows.items)
