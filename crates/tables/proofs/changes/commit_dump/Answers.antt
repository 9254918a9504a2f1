use Rattle.std.proofs.Common.{OnOk, OnErr, rules, arith, ◌≡◌, ◌∙◌, refl, sym, ap, subst}
use Rattle.std.proofs.lemmas.Result.{on_ok_weaker}
use Rattle.sqlite.specs.State.{HasCleanDisk, Survives}
use Rattle.sqlite.specs.Effect.{Database}
use Rattle.sqlite.specs.Held.{state}
use Rattle.flatten.specs.Rows.{rows_value}
use Rattle.tables.specs.Columns.{dump_rows}
use Rattle.tables.specs.Stands.{IsAsBefore, Rests, StandsFor, replies_of}
use Rattle.machine.specs.State.{changed, set_dump}
use Rattle.tables.proofs.Standing.{dump_changes, unkept}
use Rattle.tables.proofs.Transactions.{whole, undone}
use Rattle.tables.proofs.changes.commit_dump.Goals as goal

pub returns-clause-crash : goal.returns-clause-crash
returns-clause-crash g c m dump is of new =
    let begun = c.transaction-tx.ensures.begun in
    let next = changed m c.args.project.now c.args.key.now (set_dump dump) in
    let all = whole g.S.Store (λ db. StandsFor db next) c.args.conn.now c.change_dump.new.tx.conn.now c.commit.new.self.0 (rw begun at c.change_dump.ensures.uncommitted.survives)
    (λ clean.
    let it = c.in_ok-change_dump.ensures.changed clean (rw begun refl) (rw begun is.schema_is) is.stands.parts (replies_of m) (rw begun is.stands.keeps) (unkept m c.args.project.now c.args.key.now new.unkept) in
    dump_changes _ _ m is.stands c.args.project.now c.args.key.now c.args.reply.now dump (dump_rows c.args.rows.now.profile (rows_value c.args.rows.now)) of new.text it.1 it.2) c.commit.ensures.survives in
    let same : c.commit.new.self.0 ≡ c.conn-2-1.given.0 = search rules in
    subst (λ h. Survives (state g.S.Store c.args.conn.now) (state g.S.Store h) (λ db. StandsFor db next)) same all

pub returns-clause-done : goal.returns-clause-done
returns-clause-done g c clean m dump is of new =
    let begun = c.transaction-tx.ensures.begun in
    let next = changed m c.args.project.now c.args.key.now (set_dump dump) in
    let same : c.commit.new.self.0 ≡ c.conn-2-1.given.0 = search rules in
    let late : HasCleanDisk (state g.S.Store c.commit.new.self.0) = search rules in
    let it = c.in_ok-change_dump.ensures.changed (omega (arith, c.commit.ensures.survives.clean)) (rw begun refl) (rw begun is.schema_is) is.stands.parts (replies_of m) (rw begun is.stands.keeps) (unkept m c.args.project.now c.args.key.now new.unkept) in
    let stands = dump_changes _ _ m is.stands c.args.project.now c.args.key.now c.args.reply.now dump (dump_rows c.args.rows.now.profile (rows_value c.args.rows.now)) of new.text it.1 it.2 in
    subst (λ h. OnOk c.commit.result (Rests (state g.S.Store h) next)) same
    (on_ok_weaker c.commit.result (λ done. record {
      schema_is = ap (λ (d : Database). d.schema) done.1.now_is ∙ it.0.schema;
      settled = done.1.committed_is ∙ sym done.1.now_is;
      stands = subst (λ (d : Database). StandsFor d.trees next) (sym done.1.now_is) stands;
    }) (c.commit.ensures.ok late))

pub returns-clause-same : goal.returns-clause-same
returns-clause-same g c clean up m dump is of new =
    let begun = c.transaction-tx.ensures.begun in
    let same : c.commit.new.self.0 ≡ c.conn-2-1.given.0 = search rules in
    let late : HasCleanDisk (state g.S.Store c.commit.new.self.0) = search rules in
    let it = c.in_ok-change_dump.ensures.changed (omega (arith, c.commit.ensures.survives.clean)) (rw begun refl) (rw begun is.schema_is) is.stands.parts (replies_of m) (rw begun is.stands.keeps) (unkept m c.args.project.now c.args.key.now new.unkept) in
    let keeps = rw begun at (c.change_dump.ensures.uncommitted.kept (omega (arith, c.commit.ensures.survives.clean))) in
    subst (λ h. OnErr c.commit.result (IsAsBefore (state g.S.Store c.args.conn.now) (state g.S.Store h))) same
    (undone g.S.Store c.args.conn.now c.change_dump.new.tx.conn.now c.commit.new.self.0 c.commit.result keeps (c.commit.ensures.err late) it.0.inside (rw same up) is.settled)
