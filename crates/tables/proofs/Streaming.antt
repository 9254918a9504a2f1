-- What rows that are read one at a time leave.
use Rattle.std.proofs.Common.{◌≡◌, ◌⊎◌, inl, inr, List, [], ℕ, None, Result, Ok, Err, IfErr, OnOk, sym, subst, ◌∙◌}
use Rattle.sqlite_value.specs.Order.{Row}
use Rattle.sqlite.specs.Clock.{timed}
use Rattle.sqlite.specs.Effect.{Database}
use Rattle.sqlite.specs.Listing.{IsSourceOf, reads_listing, understood}
use Rattle.sqlite.specs.State.{State, HasCleanDisk, Survives, CommitsShowing, Fails, FailsToQuery, IsStatement, IsUnchanged, Shown, ShowsRows}
use Rattle.sqlite.specs.declared.error.Error.{Error}
use Rattle.sqlite_trees.specs.declared.store.Store.{Ghosts}
use Rattle.sqlite.specs.Given.{HasBegun, HasGiven}
use Rattle.sqlite.specs.Held.{Held, state}
use Rattle.sqlite.proofs.Callers.{unchanged_then}
use Rattle.tables.specs.Steps.Selected.{IsQuery, IsSilent, Looks}
use Rattle.tables.proofs.Looking.{as_before, looks, looks_then}
use Rattle.tables.proofs.Silent.{never_commits, never_returns}
use Rattle.tables.proofs.Versions.{quieter}

-- a query that doesn't begin
pub refused_looks : (sql : List ℕ) (params : Row) (old new : State) (e : Error) → IsQuery sql → (HasCleanDisk new → FailsToQuery sql params old new e) → Survives old new (CommitsShowing sql params old) → Looks old new
refused_looks sql params old new e only err survives = looks sql params old new (Err e) only (λ clean. tt) err survives

-- one that begins is at its start
pub begun : {S : Type 0} (g : Ghosts S) (sql : List ℕ) (params : Row) (old new : Held S) → IsQuery sql → HasBegun g sql params old new → HasGiven g sql params new [] × IsUnchanged (state g old) (state g new)
begun g sql params old new only (inl it) = it
begun g sql params old new only (inr made) = absurd (never_returns (understood old.schema sql) (only.silent old.schema) made.0)

pub begun_looks : (sql : List ℕ) (params : Row) (old new : State) → IsQuery sql → Survives old new (CommitsShowing sql params old) → (HasCleanDisk new → IsUnchanged old new) → Looks old new
begun_looks sql params old new only survives same = record {
  survives = quieter old new _ (λ db. never_commits sql params old db (only.silent old.now.schema)) survives;
  kept = λ clean up settled. as_before old new (same clean);
}

-- and a move to the next row
moved_looks : {X : Type 0} (old new : State) (r : Result X Error) → Survives old new (λ _. ⊥) → (HasCleanDisk new → OnOk r (IsUnchanged old new)) → (HasCleanDisk new → IfErr r (λ e. Fails old new ⊥ e ⊎ IsUnchanged old new)) → Looks old new
moved_looks old new (Ok x) survives same kept = record {
  survives = survives;
  kept = λ clean up settled. as_before old new (same clean);
}
moved_looks old new (Err e) survives same kept = record {
  survives = survives;
  kept = λ clean up settled. elim (kept clean) [
    | inl failed ↦ let back = failed.3.undone up in (back.0 ∙ settled, back.1)
    | inr still ↦ as_before old new still
  ];
}

-- a query that goes on to the next row
pub looks_on : {X P : Type 0} (old mid new : State) (r : Result X Error) → Looks old mid → (HasCleanDisk mid → P × IsUnchanged old mid) → Survives mid new (λ _. ⊥) → (HasCleanDisk new → OnOk r (IsUnchanged mid new))
    → (HasCleanDisk new → IfErr r (λ e. Fails mid new ⊥ e ⊎ IsUnchanged mid new)) → Looks old new
looks_on old mid new r was given survives same kept = looks_then old mid new was (λ clean. as_before old mid (given clean).1) (moved_looks mid new r survives same kept)

-- what is shown from where nothing has changed is shown from the start
pub shown_from : (sql : List ℕ) (params : Row) (old mid new : State) (rows : List Row) → IsQuery sql → IsUnchanged old mid → Shown sql params mid new rows → Shown sql params old new rows
unfolding Shown
shown_from sql params old mid new rows only same (c, it, shows) = (c, statement, subst (λ o. ShowsRows old new sql c (timed params c.formats it.now) rows o) (sym silent) from_old)
  where
    is_now : mid.now ≡ old.now
    is_now = same.0.now_is

    silent : c.returning ≡ None
    silent = subst IsSilent it.is (only.silent mid.now.schema)

    statement : IsStatement old sql params c
    statement = record {
      is = subst (λ (d : Database). understood d.schema sql ≡ Ok c) is_now it.is;
      whole = it.whole;
      given = it.given;
      now = it.now;
    }

    from_mid : ShowsRows mid new sql c (timed params c.formats it.now) rows None
    from_mid = subst (λ o. ShowsRows mid new sql c (timed params c.formats it.now) rows o) silent shows

    from_old : ShowsRows old new sql c (timed params c.formats it.now) rows None
    from_old = (from_mid.0, subst (λ (d : Database). IsSourceOf (reads_listing d.schema sql) d from_mid.0) is_now from_mid.1, from_mid.2, unchanged_then old mid new same from_mid.3)
