-- What answers a query at a position, from what rows say.
use Rattle.std.proofs.Common.{◌≡◌, ◌≢◌, ℕ, List, [], Option, Some, None, subst}
use Rattle.lsif.specs.declared.request_kind.RequestKind.{RequestKind}
use Rattle.lsif.specs.declared.request_kind.RequestKind.TheVariants as requests
use Rattle.dump.specs.declared.role.Role.{Role}
use Rattle.dump.specs.Places.{IsListing}
use Rattle.positions.specs.Position.{PositionValue}
use Rattle.machine.specs.State.{State}
use Rattle.machine.specs.Selections.{RangeFound}
use Rattle.machine.specs.Answers.{AnswersAt, AnswersHover, AnswersPlaces, IsFound, answered, found_cmp, picked, picked_hover, unpicked, unpicked_hover}
use Rattle.machine.specs.Reply.{FoundPlace, hover_found, places_found}
use Rattle.machine.specs.Requests.{at_value}
use Rattle.desk.specs.Steps.RowHovers.{RowHovers}
use Rattle.desk.specs.Indexes.{AreFaultless}
use Rattle.desk.specs.Steps.Rows.{IsAnsweringResult, IsPlaceOfOne, PicksIn}
use Rattle.dump.proofs.Listing.{same_listing as relisted}
use Rattle.desk.proofs.RowHoverWalks.{hovers_row}
use Rattle.desk.proofs.RowWalks.{results_found}

pub renamed : (P : List ℕ → List ℕ → Type 0) (p q u v : List ℕ) → p ≡ q → u ≡ v → P p u → P q v
renamed P p q u v e f h = subst (λ x. P q x) f (subst (λ x. P x u) e h)

module _ (m : State) (free : AreFaultless m) (own uri : List ℕ) (at : PositionValue) where
  module _ (request : RequestKind) (in_roles : List Role) where
    pub no_range_places : PicksIn m request own uri at None → AnswersAt m (at_value own uri at) (AnswersPlaces m request in_roles (at_value own uri at)) (places_found [])
    no_range_places (dump, there, document, pick) = answered dump there document (unpicked pick)

    pub row_places : request ≢ requests.Hover → (row : RangeFound) → PicksIn m request own uri at (Some row) → (places : List FoundPlace) → IsListing found_cmp (IsPlaceOfOne m in_roles (IsAnsweringResult m request own row)) places
        → AnswersAt m (at_value own uri at) (AnswersPlaces m request in_roles (at_value own uri at)) (places_found places)
    row_places other row (dump, there, document, (r, pick, has)) places listing =
        answered dump there document
        (picked r pick (relisted found_cmp (IsPlaceOfOne m in_roles (IsAnsweringResult m request own row)) (IsFound m request in_roles own dump r.id) places (λ found. results_found m free request own dump there r row has other in_roles found) listing))

  pub no_range_hovers : PicksIn m requests.Hover own uri at None → AnswersAt m (at_value own uri at) (AnswersHover m (at_value own uri at)) (hover_found None)
  no_range_hovers (dump, there, document, pick) = answered dump there document (unpicked_hover pick)

  pub row_hovers : (row : RangeFound) → PicksIn m requests.Hover own uri at (Some row) → (o : Option (List ℕ)) → RowHovers m own row o → AnswersAt m (at_value own uri at) (AnswersHover m (at_value own uri at)) (hover_found o)
  row_hovers row (dump, there, document, (r, pick, has)) o is = answered dump there document (picked_hover r pick (hovers_row m free own dump there r row has o is))
