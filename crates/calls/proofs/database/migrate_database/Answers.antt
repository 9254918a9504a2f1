use Rattle.std.proofs.Common.{◌≡◌, ◌∙◌, true, false, map, length, arith, inr, refl, ap, sym, subst, Some, IsTrue}
use Rattle.std.proofs.lemmas.List.{length-map}
use Rattle.sqlite.specs.Held.{state}
use Rattle.sqlite.specs.State.{HasCleanDisk}
use Rattle.machine.specs.Found.{project_found}
use Rattle.tables.specs.Stands.{Rests}
use Rattle.desk.proofs.TableStates.{rests_on}
use Rattle.calls.proofs.database.migrate_database.Goals as goal

unlike : true ≡ false → ⊥
unlike e = cc

pub returns-in-Ok-default-true-clause-migrated : goal.returns-in-Ok-default-true-clause-migrated
returns-in-Ok-default-true-clause-migrated g c clean m one =
    let mid = c.in-Ok-default-true.tables in
    let new = c.projects.new.self in
    let now = subst (λ h. HasCleanDisk (state g.S.Store h)) c.into_connection.ensures.same clean in
    let rests = ((c.in-Ok-default-true.ensures.stands m (inr one)).0 (c.projects.ensures.selects.clean now)).1 in
    let list = c.in_ok-projects-in-Ok-default-true.projects in
    let found = list.items in
    let listed : list.len ≡ length found = omega (arith, list.ok.0) in
    record {
      stands = λ up.
          let is_open = subst (λ h. IsTrue (state g.S.Store h).is_open) c.into_connection.ensures.same up in
          subst (λ h. Rests (state g.S.Store h) m) (sym c.into_connection.ensures.same)
          (rests_on (state g.S.Store mid) (state g.S.Store new) m (c.projects.ensures.selects.same now is_open m rests) rests);
      projects = map project_found found;
      found = c.in_ok-projects-in-Ok-default-true.ensures.found now m rests;
      counted = ap Some (c.len.ensures ∙ (listed ∙ sym (length-map found project_found)));
    }

pub returns-in-Ok-default-true-clause-known : goal.returns-in-Ok-default-true-clause-known
returns-in-Ok-default-true-clause-known g c clean m finds =
    let now = subst (λ h. HasCleanDisk (state g.S.Store h)) c.into_connection.ensures.same clean in
    let told = ((c.in-Ok-default-true.ensures.known_stands m (inr finds)).0 (c.projects.ensures.selects.clean now)).0 in
    absurd (unlike (sym c.in-Ok-default-true.field-0-1-test ∙ told))

pub returns-in-Ok-default-false-clause-migrated : goal.returns-in-Ok-default-false-clause-migrated
returns-in-Ok-default-false-clause-migrated g c clean m one =
    let now = subst (λ h. HasCleanDisk (state g.S.Store h)) c.into_connection-in-Ok-default-false.ensures.same clean in
    let told = ((c.in-Ok-default-false.ensures.stands m (inr one)).0 now).0 in
    absurd (unlike (sym told ∙ c.in-Ok-default-false.field-0-1-test))

pub returns-in-Ok-default-false-clause-known : goal.returns-in-Ok-default-false-clause-known
returns-in-Ok-default-false-clause-known g c clean m finds =
    let same = c.into_connection-in-Ok-default-false.ensures.same in
    let now = subst (λ h. HasCleanDisk (state g.S.Store h)) same clean in
    (refl, subst (λ h. Rests (state g.S.Store h) m) (sym same) ((c.in-Ok-default-false.ensures.known_stands m (inr finds)).0 now).1)
