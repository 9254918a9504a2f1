use Rattle.std.proofs.Common.{◌≡◌, drop}
use Rattle.lsif.specs.Ids.{ids_in}
use Rattle.serde_json.specs.View.{items_view}
use Rattle.lsif.proofs.ItemLists.{with_front}
use Rattle.lsif.proofs.ids.read_ids.Given as goal

abbrev pub invariant-loop-value : goal.invariant-loop-value
invariant-loop-value l = with_front l.found (ids_in (items_view (drop l.value-index l.values))) ≡ ids_in (items_view l.values)
