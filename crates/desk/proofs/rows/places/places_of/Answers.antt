use Rattle.std.proofs.Common.{map, sym, subst}
use Rattle.std.specs.Prelude.{Contains}
use Rattle.std.proofs.lemmas.List.Filters.{dedup_is}
use Rattle.machine.specs.Answers.{found_cmp}
use Rattle.desk.specs.Steps.RowPlaces.{item_place}
use Rattle.streams.proofs.Members.{not_in_nil}
use Rattle.dump.proofs.Listing.{same_listing as relisted}
use Rattle.desk.proofs.ListedRows.{items_listed}
use Rattle.desk.proofs.RowLists.{without}
use Rattle.desk.proofs.rows.places.places_of.Goals as goal

pub returns-clause-found : goal.returns-clause-found
returns-clause-found g c = λ sound m stood.
    relisted found_cmp _ _ (map item_place c.dedup.new.self.items)
    (λ place. without (subst (λ xs. Contains (map item_place xs) place → ⊥) (sym c.new-found.ensures.items) (not_in_nil place)) (c.in_ok-add_results.ensures.found sound m stood place)) (items_listed _ _ _ c.sort_unstable.ensures.permutation c.sort_unstable.ensures.sorted (dedup_is _ _ _ c.dedup.ensures.filtered))
