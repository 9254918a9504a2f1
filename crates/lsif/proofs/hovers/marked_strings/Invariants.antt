use Rattle.std.proofs.Common.{◌≡◌, drop, map}
use Rattle.lsif.specs.Hovers.{marked_in}
use Rattle.lsif.specs.Ids.{each_in}
use Rattle.serde_json.specs.View.{view, items_view}
use Rattle.lsif.proofs.ItemLists.{with_front}
use Rattle.lsif.proofs.hovers.marked_strings.Given as goal

abbrev pub invariant-loop-value : goal.invariant-loop-value
invariant-loop-value l = with_front (map view l.found.items) (each_in marked_in (items_view (drop l.value-index l.values))) ≡ each_in marked_in (items_view l.values)
