use Rattle.std.proofs.Common.{sym, subst}
use Rattle.desk.specs.Steps.Rows.{IsPlaceOf, project_result_value}
use Rattle.desk.proofs.Finding.{iff_sym, iff_trans, or_none}
use Rattle.desk.proofs.RowLists.{drop_end, roles_none, roles_step}
use Rattle.desk.proofs.ReadingOnly.{reads_then}
use Rattle.desk.proofs.rows.places.add_roles.Goals as goal

pub loop-role-preserved : goal.loop-role-preserved
loop-role-preserved g c =
    let was = c.loop-role.invariant in
    let e = c.in_ok-add_role.ensures in
    let roles = c.args.roles.now in
    let i = c.loop-role.role-index in
    let t = project_result_value c.args.project_result.now in
    record {
      reliable = λ s. was.reliable (e.reads.reliable s);
      reads_only = λ s. reads_then (was.reads_only (e.reads.reliable s)) (e.reads.only s);
      found = λ s m stood place.
          iff_trans (roles_step m t place roles i _ c.loop-role-test.true (e.found s m ((was.reads_only (e.reads.reliable s)).state m stood) place)) (was.found (e.reads.reliable s) m stood place);
    }

pub returns-clause-found : goal.returns-clause-found
returns-clause-found g c = λ s m stood place.
    let ended = drop_end c.args.roles.now c.loop-role.role-index c.loop-role-test.false in
    let none = subst (λ l. IsPlaceOf m l (project_result_value c.args.project_result.now) place → ⊥) (sym ended) (roles_none m (project_result_value c.args.project_result.now) place) in
    iff_trans (iff_sym (or_none none)) (c.loop-role.invariant.found s m stood place)
