use Rattle.std.proofs.Common.{◌≡◌, ◌++◌, [], ◌∷◌, refl, subst, sym, rules, arith}
use Rattle.sqlite.specs.Values.{bound}
use Rattle.sqlite.specs.State.{HasCleanDisk, IsUnchanged, Shown}
use Rattle.sqlite.specs.Held.{state}
use Rattle.sqlite.specs.Given.{HasGiven}
use Rattle.sqlite.proofs.Callers.{unchanged_then}
use Rattle.tables.specs.Steps.Selected.{Looks}
use Rattle.tables.proofs.Streaming.{begun, refused_looks, begun_looks, looks_on, shown_from}
use Rattle.tables.proofs.selection.select_all.Goals as goal

pub returns-in_err-rows-clause-reads : goal.returns-in_err-rows-clause-reads
returns-in_err-rows-clause-reads g c =
    let old = state g.S.Store c.args.conn.now in
    let new = state g.S.Store c.query.follows.lender-at-none in
    let held = rw (c.in_err-rows.was) at c.query.follows.holds-at-none in
    record {
      kept = search rules;
      looks = refused_looks c.args.sql.now _ old new c.in_err-rows.field-0.0 c.requires held.err held.survives;
      mode = search rules;
    }

pub rows-init : goal.rows-init
rows-init g c =
    let old = state g.S.Store c.args.conn.now in
    let new = state g.S.Store c.in_ok-rows.rows.conn.now in
    let made = c.in_ok-rows.ensures in
    let at_start : HasCleanDisk new → HasGiven g.S.Store c.args.sql.now (bound c.args.params.now) c.in_ok-rows.rows.conn.now [] × IsUnchanged old new = λ clean.
    begun g.S.Store _ _ c.args.conn.now c.in_ok-rows.rows.conn.now c.requires (made.begun clean) in
    record {
      same_reference = refl;
      looks = begun_looks c.args.sql.now _ old new c.requires made.survives (λ clean. (at_start clean).1);
      mode = made.mode;
      given = [];
      is_given = at_start;
      read = rw c.new-found.ensures.items tt;
      sound = rw c.new-found.ensures.items tt;
    }

pub rows-preserved : goal.rows-preserved
rows-preserved g c =
    let was = c.rows.invariant in
    let moved = c.next.follows.holds-at-none in
    let now = c.next.follows.lender-at-none.conn.now in
    let old = state g.S.Store c.args.conn.now in
    let new = state g.S.Store now in
    let row = c.in-Some.row.now in
    record {
      same_reference = search rules;
      looks = looks_on old (state g.S.Store c.rows.rows.conn.now) new c.next.result was.looks was.is_given moved.survives moved.same moved.kept;
      mode = λ h. moved.mode (was.mode h);
      given = was.given ++ row ∷ [];
      is_given = λ clean.
          let before = was.is_given (omega (arith, moved.survives.clean)) in
          let given = (rw (c.in_ok-row.was, c.in-Some.is) at (moved.ok clean)) c.args.sql.now (bound c.args.params.now) was.given before.0 in
          (given, unchanged_then _ _ _ before.1 ((rw (c.in_ok-row.was) at moved.same) clean));
      read = c.in_ok-add_row.ensures.read was.given was.read;
      sound = c.in_ok-add_row.ensures.sound was.sound;
    }

pub returns-in_err-row-clause-reads : goal.returns-in_err-row-clause-reads
returns-in_err-row-clause-reads g c =
    let was = c.rows.invariant in
    let moved = c.next.follows.holds-at-none in
    let now = c.next.follows.lender-at-none.conn.now in
    let old = state g.S.Store c.args.conn.now in
    let last : now ≡ c.conn-in_err-row-1.given.0 = search rules in
    record {
      kept = search rules;
      looks = subst (λ h. Looks old (state g.S.Store h)) last (looks_on old (state g.S.Store c.rows.rows.conn.now) (state g.S.Store now) c.next.result was.looks was.is_given moved.survives moved.same moved.kept);
      mode = search rules;
    }

pub returns-in_default-clause-reads : goal.returns-in_default-clause-reads
returns-in_default-clause-reads g c =
    let was = c.rows.invariant in
    let moved = c.next.follows.holds-at-none in
    let now = c.next.follows.lender-at-none.conn.now in
    let old = state g.S.Store c.args.conn.now in
    let last : now ≡ c.conn-in_default-1.given.0 = search rules in
    record {
      kept = search rules;
      looks = subst (λ h. Looks old (state g.S.Store h)) last (looks_on old (state g.S.Store c.rows.rows.conn.now) (state g.S.Store now) c.next.result was.looks was.is_given moved.survives moved.same moved.kept);
      mode = search rules;
    }

pub returns-in_err-add_row-clause-reads : goal.returns-in_err-add_row-clause-reads
returns-in_err-add_row-clause-reads g c =
    let was = c.rows.invariant in
    let moved = c.next.follows.holds-at-none in
    let now = c.next.follows.lender-at-none.conn.now in
    let old = state g.S.Store c.args.conn.now in
    let last : now ≡ c.conn-in_err-add_row-1.given.0 = search rules in
    record {
      kept = search rules;
      looks = subst (λ h. Looks old (state g.S.Store h)) last (looks_on old (state g.S.Store c.rows.rows.conn.now) (state g.S.Store now) c.next.result was.looks was.is_given moved.survives moved.same moved.kept);
      mode = search rules;
    }

pub returns-in_default-clause-read : goal.returns-in_default-clause-read
returns-in_default-clause-read g c clean has =
    let moved = c.next.follows.holds-at-none in
    let now = c.next.follows.lender-at-none.conn.now in
    let old = state g.S.Store c.args.conn.now in
    let mid = state g.S.Store c.rows.rows.conn.now in
    let last : now ≡ c.conn-in_default-1.given.0 = search rules in
    let late = subst (λ h. HasCleanDisk (state g.S.Store h)) (sym last) clean in
    let was = c.rows.invariant.is_given (omega (arith, moved.survives.clean)) in
    let shown = (rw (c.in_ok-row.was, c.in_default.is) at (moved.ok late)) c.args.sql.now (bound c.args.params.now) c.rows.invariant.given was.0 in
    let whole = shown_from c.args.sql.now (bound c.args.params.now) old mid (state g.S.Store now) c.rows.invariant.given c.requires was.1 shown in
    (c.rows.invariant.given, subst (λ h. Shown c.args.sql.now (bound c.args.params.now) old (state g.S.Store h) c.rows.invariant.given) last whole, c.rows.invariant.read)
