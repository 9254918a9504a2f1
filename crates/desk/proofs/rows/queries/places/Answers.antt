use Rattle.std.proofs.Common.{◌∙◌, map, sym, ap, subst}
use Rattle.std.specs.Prelude.{Contains}
use Rattle.dump.specs.Places.{IsListing}
use Rattle.machine.specs.Selections.{range_found}
use Rattle.machine.specs.Answers.{AnswersAt, AnswersPlaces, found_cmp, no_dump, no_such_document}
use Rattle.machine.specs.Reply.{places_found}
use Rattle.machine.specs.Requests.{at_value}
use Rattle.desk.specs.Steps.RowPlaces.{item_place}
use Rattle.desk.specs.Steps.Rows.{IsAnsweringResult, IsPlaceOfOne, Picks, ProjectResultValue, project_result_value}
use Rattle.dump.proofs.Listing.{same_listing as relisted}
use Rattle.desk.proofs.RowAnswers.{no_range_places, renamed, row_places}
use Rattle.desk.proofs.RowLists.{places_same}
use Rattle.desk.proofs.rows.queries.places.Goals as goal

pub returns-in-NoDump-clause-found : goal.returns-in-NoDump-clause-found
returns-in-NoDump-clause-found g c = λ s m stood other.
    let p = subst (Picks m c.args.request c.as_str-project.result.now c.as_str-uri.result.now c.args.at) c.in-NoDump.is (c.in_ok-pick.ensures.found s m stood) in
    renamed (λ q u. AnswersAt m (at_value q u c.args.at) (AnswersPlaces m c.args.request c.args.roles.now (at_value q u c.args.at)) c.refused.result) _ _ _ _ c.as_str-project.ensures.value c.as_str-uri.ensures.value
    (subst (AnswersAt m _ _) (sym c.refused.ensures) (no_dump p))

pub returns-in-NoDocument-clause-found : goal.returns-in-NoDocument-clause-found
returns-in-NoDocument-clause-found g c = λ s m stood other.
    let p = subst (Picks m c.args.request c.as_str-project.result.now c.as_str-uri.result.now c.args.at) c.in-NoDocument.is (c.in_ok-pick.ensures.found s m stood) in
    renamed (λ q u. AnswersAt m (at_value q u c.args.at) (AnswersPlaces m c.args.request c.args.roles.now (at_value q u c.args.at)) c.refused-in-NoDocument.result) _ _ _ _ c.as_str-project.ensures.value c.as_str-uri.ensures.value
    (subst (AnswersAt m _ _) (sym c.refused-in-NoDocument.ensures) (no_such_document p.0 p.1 p.2))

pub returns-in_ok-places_reply-in-NoRange-clause-found : goal.returns-in_ok-places_reply-in-NoRange-clause-found
returns-in_ok-places_reply-in-NoRange-clause-found g c = λ s m stood other.
    let own = c.as_str-project.result.now in
    let uri = c.as_str-uri.result.now in
    let at = c.args.at in
    let p = subst (Picks m c.args.request own uri at) c.in-NoRange.is (c.in_ok-pick.ensures.found s m stood) in
    let answer = no_range_places m (c.in_ok-pick.ensures.faultless s m stood) own uri at c.args.request c.args.roles.now p in
    renamed (λ q u. AnswersAt m (at_value q u at) (AnswersPlaces m c.args.request c.args.roles.now (at_value q u at)) c.in_ok-places_reply-in-NoRange.field-0) _ _ _ _ c.as_str-project.ensures.value c.as_str-uri.ensures.value
    (subst (AnswersAt m _ _) (sym c.in_ok-places_reply-in-NoRange.ensures) answer)

pub returns-in_ok-places_reply-in-Range-clause-found : goal.returns-in_ok-places_reply-in-Range-clause-found
returns-in_ok-places_reply-in-Range-clause-found g c = λ s m stood other.
    let own = c.as_str-project.result.now in
    let uri = c.as_str-uri.result.now in
    let at = c.args.at in
    let request = c.args.request in
    let roles = c.args.roles.now in
    let row = range_found c.in-Range.range in
    let s2 = c.places_of.ensures.reads.reliable s in
    let s1 = c.answering_results.ensures.reads.reliable s2 in
    let p = subst (Picks m request own uri at) c.in-Range.is (c.in_ok-pick.ensures.found s1 m stood) in
    let stands1 = (c.in_ok-pick.ensures.reads.only s1).state m stood in
    let stands2 = (c.in_ok-project_results-in-Range.ensures.reads.only s2).state m stands1 in
    let are = (c.in_ok-project_results-in-Range.ensures.found s2 m stands1).each in
    let listing = subst (λ l. IsListing found_cmp (IsPlaceOfOne m roles (λ (t : ProjectResultValue). Contains (map project_result_value l) t)) (map item_place c.in_ok-found-in-Range.found.items)) c.deref.ensures.value (c.in_ok-found-in-Range.ensures.found s m stands2) in
    let same = relisted found_cmp _ (IsPlaceOfOne m roles (IsAnsweringResult m request own row)) (map item_place c.in_ok-found-in-Range.found.items) (λ place. places_same m roles _ (IsAnsweringResult m request own row) are place) listing in
    let answer = row_places m (c.in_ok-pick.ensures.faultless s1 m stood) own uri at request roles other row p (map item_place c.in_ok-found-in-Range.found.items) same in
    let reply = c.in_ok-places_reply-in-Range.ensures ∙ ap places_found (ap (map item_place) c.deref-in-Range.ensures.value) in
    renamed (λ q u. AnswersAt m (at_value q u at) (AnswersPlaces m request roles (at_value q u at)) c.in_ok-places_reply-in-Range.field-0) _ _ _ _ c.as_str-project.ensures.value c.as_str-uri.ensures.value
    (subst (AnswersAt m _ _) (sym reply) answer)
