use Rattle.std.proofs.Common.{OnErr, rules, arith, ◌≡◌, ◌∙◌, refl, sym, ap, subst}
use Rattle.sqlite.specs.State.{HasCleanDisk, Survives}
use Rattle.sqlite.specs.Effect.{Database}
use Rattle.sqlite.specs.Held.{state}
use Rattle.tables.specs.Stands.{IsAsBefore, Rests, StandsFor, replies_of}
use Rattle.machine.specs.State.{changed, clear, parts_removed, accepted_text}
use Rattle.tables.proofs.Standing.{both_go, are_there, unkept}
use Rattle.tables.proofs.Transactions.{whole, undone}
use Rattle.tables.proofs.changes.commit_removal.Goals as goal

pub returns-in_err-commit-clause-crash : goal.returns-in_err-commit-clause-crash
returns-in_err-commit-clause-crash g c m is free =
    let begun = c.transaction-tx.ensures.begun in
    let next = changed m c.args.project.now c.args.key.now clear in
    let all = whole g.S.Store (λ db. StandsFor db next) c.args.conn.now c.change_both.new.tx.conn.now c.commit.new.self.0 (rw begun at c.change_both.ensures.uncommitted.survives)
    (λ clean.
    let it = c.in_ok-was_there.ensures.changed clean (rw begun refl) (rw begun is.schema_is) is.stands.parts (replies_of m) (rw begun is.stands.keeps) (unkept m c.args.project.now c.args.key.now free) in
    let text = ap (λ b. accepted_text (parts_removed b)) (it.0 ∙ are_there _ m is.stands c.args.project.now) in
    both_go _ _ m is.stands c.args.project.now c.args.key.now (accepted_text (parts_removed c.in_ok-was_there.was_there)) text it.2 it.3) c.commit.ensures.survives in
    let same : c.commit.new.self.0 ≡ c.conn-2-1.given.0 = search rules in
    subst (λ h. Survives (state g.S.Store c.args.conn.now) (state g.S.Store h) (λ db. StandsFor db next)) same all

pub returns-in_err-commit-clause-same : goal.returns-in_err-commit-clause-same
returns-in_err-commit-clause-same g c clean up m is free =
    let begun = c.transaction-tx.ensures.begun in
    let same : c.commit.new.self.0 ≡ c.conn-2-1.given.0 = search rules in
    let late : HasCleanDisk (state g.S.Store c.commit.new.self.0) = search rules in
    let it = c.in_ok-was_there.ensures.changed (omega (arith, c.commit.ensures.survives.clean)) (rw begun refl) (rw begun is.schema_is) is.stands.parts (replies_of m) (rw begun is.stands.keeps) (unkept m c.args.project.now c.args.key.now free) in
    let keeps = rw begun at (c.change_both.ensures.uncommitted.kept (omega (arith, c.commit.ensures.survives.clean))) in
    let back = undone g.S.Store c.args.conn.now c.change_both.new.tx.conn.now c.commit.new.self.0 c.commit.result keeps (c.commit.ensures.err late) it.1.inside (rw same up) is.settled in
    let found : OnErr c.from_residual-in_err-commit.result (IsAsBefore (state g.S.Store c.args.conn.now) (state g.S.Store c.commit.new.self.0)) = search rules in
    subst (λ h. OnErr c.from_residual-in_err-commit.result (IsAsBefore (state g.S.Store c.args.conn.now) (state g.S.Store h))) same found

pub returns-clause-crash : goal.returns-clause-crash
returns-clause-crash g c m is free =
    let begun = c.transaction-tx.ensures.begun in
    let next = changed m c.args.project.now c.args.key.now clear in
    let all = whole g.S.Store (λ db. StandsFor db next) c.args.conn.now c.change_both.new.tx.conn.now c.commit.new.self.0 (rw begun at c.change_both.ensures.uncommitted.survives)
    (λ clean.
    let it = c.in_ok-was_there.ensures.changed clean (rw begun refl) (rw begun is.schema_is) is.stands.parts (replies_of m) (rw begun is.stands.keeps) (unkept m c.args.project.now c.args.key.now free) in
    let text = ap (λ b. accepted_text (parts_removed b)) (it.0 ∙ are_there _ m is.stands c.args.project.now) in
    both_go _ _ m is.stands c.args.project.now c.args.key.now (accepted_text (parts_removed c.in_ok-was_there.was_there)) text it.2 it.3) c.commit.ensures.survives in
    let same : c.commit.new.self.0 ≡ c.conn-2-1.given.0 = search rules in
    subst (λ h. Survives (state g.S.Store c.args.conn.now) (state g.S.Store h) (λ db. StandsFor db next)) same all

pub returns-clause-done : goal.returns-clause-done
returns-clause-done g c clean m is free =
    let begun = c.transaction-tx.ensures.begun in
    let next = changed m c.args.project.now c.args.key.now clear in
    let same : c.commit.new.self.0 ≡ c.conn-2-1.given.0 = search rules in
    let late : HasCleanDisk (state g.S.Store c.commit.new.self.0) = search rules in
    let it = c.in_ok-was_there.ensures.changed (omega (arith, c.commit.ensures.survives.clean)) (rw begun refl) (rw begun is.schema_is) is.stands.parts (replies_of m) (rw begun is.stands.keeps) (unkept m c.args.project.now c.args.key.now free) in
    let there = it.0 ∙ are_there _ m is.stands c.args.project.now in
    let stands = both_go _ _ m is.stands c.args.project.now c.args.key.now (accepted_text (parts_removed c.in_ok-was_there.was_there)) (ap (λ b. accepted_text (parts_removed b)) there) it.2 it.3 in
    let done = c.in_ok-commit.ensures.ok late in (
      there,
      subst (λ h. Rests (state g.S.Store h) next) same (record {
        schema_is = ap (λ (d : Database). d.schema) done.1.now_is ∙ it.1.schema;
        settled = done.1.committed_is ∙ sym done.1.now_is;
        stands = subst (λ (d : Database). StandsFor d.trees next) (sym done.1.now_is) stands;
      }),
    )
