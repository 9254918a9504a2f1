use Rattle.std.proofs.Common.{map, string_bytes, subst, sym}
use Rattle.std.proofs.lemmas.List.Filters.{dedup_is}
use Rattle.machine.specs.Selections.{range_found}
use Rattle.desk.specs.Steps.Rows.{AreKeys, IsAnsweringResult, joined_value, project_result_cmp}
use Rattle.desk.proofs.ListedRows.{project_results_listed}
use Rattle.desk.proofs.RowLists.{results_are}
use Rattle.dump.proofs.Listing.{same_listing as relisted}
use Rattle.desk.proofs.rows.results.answering_results.Goals as goal

pub returns-clause-found : goal.returns-clause-found
returns-clause-found g c = λ s m stood.
    let request = c.args.request in
    let own = c.args.own.now in
    let before = c.joined_bearers.ensures.reads.reliable s in
    let keyed = subst (λ l. AreKeys m request own c.args.range.now.line (map string_bytes l)) (sym c.deref.ensures.value) (c.in_ok-keys.ensures.found before m stood) in
    let mid = (c.in_ok-keys.ensures.reads.only before).state m stood in
    let row = range_found c.args.range.now in
    let listing = project_results_listed _ _ _ c.sort_unstable.ensures.permutation c.sort_unstable.ensures.sorted (dedup_is _ _ _ c.dedup.ensures.filtered) in
    relisted project_result_cmp _ (IsAnsweringResult m request own row) _
    (λ t. results_are m request own row (map string_bytes c.deref.result.now) (map joined_value c.in_ok-joined.joined.items) t keyed (c.in_ok-joined.ensures.found s m mid) (c.in_ok-add_joined.ensures t) (c.in_ok-project_results.ensures t))
    listing
