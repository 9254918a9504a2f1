use Rattle.std.proofs.Common.{◌+◌, ◌⊎◌, List, drop, map, sym, subst}
use Rattle.std.specs.Prelude.{◌↔◌, Contains}
use Rattle.desk.specs.Steps.Rows.{IsPlaceOf, IsPlaceOfOne, ProjectResultValue, project_result_value}
use Rattle.desk.specs.declared.rows.results.ProjectResult.{ProjectResult}
use Rattle.desk.proofs.Finding.{iff_sym, iff_trans, or_none, or_step}
use Rattle.streams.proofs.Lists.{drop_next}
use Rattle.desk.proofs.RowLists.{drop_end, results_more, results_none}
use Rattle.desk.proofs.ReadingOnly.{reads_then}
use Rattle.desk.proofs.rows.places.add_results.Goals as goal

pub loop-project_result-preserved : goal.loop-project_result-preserved
loop-project_result-preserved g c =
    let was = c.loop-project_result.invariant in
    let e = c.in_ok-add_roles.ensures in
    let project_results = c.args.project_results.now in
    let roles = c.args.roles.now in
    let i = c.loop-project_result.project_result-index in
    let project_result = c.project_result-item.result in
    record {
      reliable = λ s. was.reliable (e.reads.reliable s);
      reads_only = λ s. reads_then (was.reads_only (e.reads.reliable s)) (e.reads.only s);
      found = λ s m stood place.
          let split = drop_next project_results i project_result c.loop-project_result-test.true c.project_result-item.is in
          let more = subst (λ (l : List ProjectResult). IsPlaceOfOne m roles (λ (t : ProjectResultValue). Contains (map project_result_value l) t) place ↔ (IsPlaceOf m roles (project_result_value project_result) place ⊎ IsPlaceOfOne m roles (λ (t : ProjectResultValue). Contains (map project_result_value (drop (i + 1) project_results)) t) place)) (sym split)
          (results_more m roles place (project_result_value project_result) (map project_result_value (drop (i + 1) project_results))) in
          iff_trans (or_step (e.found s m ((was.reads_only (e.reads.reliable s)).state m stood) place) more) (was.found (e.reads.reliable s) m stood place);
    }

pub returns-clause-found : goal.returns-clause-found
returns-clause-found g c = λ s m stood place.
    let ended = drop_end c.args.project_results.now c.loop-project_result.project_result-index c.loop-project_result-test.false in
    let none = subst (λ (l : List ProjectResult). IsPlaceOfOne m c.args.roles.now (λ (t : ProjectResultValue). Contains (map project_result_value l) t) place → ⊥) (sym ended) (results_none m c.args.roles.now place) in
    iff_trans (iff_sym (or_none none)) (c.loop-project_result.invariant.found s m stood place)
