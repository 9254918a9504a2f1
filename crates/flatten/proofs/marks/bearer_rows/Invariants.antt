use Rattle.std.proofs.Common.{◌≡◌, ◌++◌, length, map, reverse}
use Rattle.std.specs.List.{All}
use Rattle.dump.specs.Places.{IsListing}
use Rattle.flatten.specs.Flat.{IsBearerRow, mark_cmp}
use Rattle.flatten.specs.Rows.{bearer_value, mark_value}
use Rattle.flatten.specs.Steps.Chains.{AreChains}
use Rattle.flatten.specs.Steps.Marks.{IsBorneRow, bearer_mark}
use Rattle.flatten.proofs.marks.bearer_rows.Given as goal

abbrev pub invariant-loop-mark : goal.invariant-loop-mark
invariant-loop-mark l =
    IsListing mark_cmp (IsBorneRow l.initial.chains.dump.now.elements) (map bearer_mark (map bearer_value l.rows.items) ++ reverse (map mark_value l.left.items))
    × All (IsBearerRow l.initial.chains.dump.now.elements) (map bearer_value l.rows.items) × AreChains l.chains × (l.chains.dump ≡ l.initial.chains.dump) × (l.chains.borne ≡ l.initial.chains.borne)

abbrev pub decreases-loop-mark : goal.decreases-loop-mark
decreases-loop-mark l = length l.left.items
