-- What queries leave.
use Rattle.std.proofs.Common.{◌≡◌, inl, inr, Bool, true, false, List, ℕ, Result, Ok, Err, Vec, is_ok, IfOk, IfErr, IsTrue, sym, ap, subst, ◌∙◌, arith}
use Rattle.std.specs.declared.alloc.Global.{Global}
use Rattle.sqlite_value.specs.Order.{Row}
use Rattle.sqlite_trees.specs.Tree.{Trees}
use Rattle.sqlite.specs.Clock.{timed}
use Rattle.sqlite.specs.Effect.{Database}
use Rattle.sqlite.specs.State.{State, HasCleanDisk, Survives, IsUnchanged, Shown, ShowsRows, CommitsShowing, FailsToQuery}
use Rattle.sqlite.specs.declared.error.Error.{Error}
use Rattle.sqlite.proofs.StateLemmas.{survives_then}
use Rattle.tables.specs.Stands.{IsAsBefore}
use Rattle.tables.specs.Schema.{schema_two}
use Rattle.std.specs.Bool.{OnTrue}
use Rattle.tables.specs.Steps.Selected.{IsQuery, IsSilent, Looks}
use Rattle.tables.specs.Steps.Clauses.{Reads}
use Rattle.tables.proofs.Silent.{never_commits}
use Rattle.tables.proofs.Versions.{failed, quieter}

pub as_before : (old new : State) → IsUnchanged old new → IsAsBefore old new
as_before old new same = (same.0.now_is, same.0.committed_is)

pub shown_kept : (sql : List ℕ) (params : Row) (old new : State) (rows : List Row) → IsQuery sql → Shown sql params old new rows → IsAsBefore old new
unfolding Shown
shown_kept sql params old new rows only h =
    let none = subst IsSilent h.1.is (only.silent old.now.schema) in
    as_before old new (subst (ShowsRows old new sql h.0 (timed params h.0.formats h.1.now) rows) none h.2).3

kept_so : (sql : List ℕ) (params : Row) (old new : State) (r : Result (Vec Row Global) Error) → IsQuery sql → IfOk r (λ rows. Shown sql params old new rows.items) → IfErr r (FailsToQuery sql params old new)
    → IsTrue new.is_open → old.committed ≡ old.now → IsAsBefore old new
kept_so sql params old new (Ok rows) only ok err up settled = shown_kept sql params old new rows.items only ok
kept_so sql params old new (Err e) only ok err up settled =
    let it = failed sql params old new e (only.silent old.now.schema) up err in
    ((elim it.1 [ inl same ↦ same | inr back ↦ back ∙ settled ]), it.0)

-- a query that can't write
pub looks : (sql : List ℕ) (params : Row) (old new : State) (r : Result (Vec Row Global) Error) → IsQuery sql → (HasCleanDisk new → IfOk r (λ rows. Shown sql params old new rows.items)) → (HasCleanDisk new → IfErr r (FailsToQuery sql params old new))
    → Survives old new (CommitsShowing sql params old) → Looks old new
looks sql params old new r only ok err survives = record {
  survives = quieter old new _ (λ db. never_commits sql params old db (only.silent old.now.schema)) survives;
  kept = λ clean. kept_so sql params old new r only (ok clean) (err clean);
}

pub survives_clean : (old new : State) → Looks old new → HasCleanDisk new → HasCleanDisk old
survives_clean old new looks clean = omega (arith, looks.survives.clean)

pub kept_then : (a b c : State) → IsAsBefore a b → IsAsBefore b c → IsAsBefore a c
kept_then a b c p q = (q.0 ∙ p.0, q.1 ∙ p.1)

-- one query after another that found
pub looks_then : (a b c : State) → Looks a b → (HasCleanDisk b → IsAsBefore a b) → Looks b c → Looks a c
looks_then a b c p kept q = record {
  survives = survives_then a b c _ _ _ (λ _ db none. none) (λ _ db none. none) p.survives q.survives;
  kept = λ clean up settled.
      let was = kept (survives_clean b c q clean) in
      kept_then a b c was (q.kept clean up (was.1 ∙ (settled ∙ sym was.0)));
}

-- what a later query says, of the tables before the first
pub still : (old mid new : State) (Q P : Trees → Type 0) → (HasCleanDisk mid → IsAsBefore old mid) → Looks mid new
    → (HasCleanDisk new → mid.now.schema ≡ schema_two → Q mid.now.trees → P mid.now.trees) → HasCleanDisk new → old.now.schema ≡ schema_two → Q old.now.trees → P old.now.trees
still old mid new Q P kept looks says clean has known =
    let same = (kept (survives_clean mid new looks clean)).0 in
    subst (λ (d : Database). P d.trees) same (says clean (ap (λ (d : Database). d.schema) same ∙ has) (subst (λ (d : Database). Q d.trees) (sym same) known))

pub kept_on : (old mid new : State) → (HasCleanDisk mid → IsAsBefore old mid) → Looks mid new → (HasCleanDisk new → IsAsBefore mid new)
    → HasCleanDisk new → IsAsBefore old new
kept_on old mid new kept looks more clean = kept_then old mid new (kept (survives_clean mid new looks clean)) (more clean)

kept_by : (k : Bool) (a b c : State) → IsAsBefore a b → OnTrue k (IsAsBefore b c) → OnTrue k (IsAsBefore a c)
kept_by true a b c p q = kept_then a b c p q
kept_by false a b c p q = tt

-- selections, after those that succeeded
pub reads_then : {k : Bool} {a b c : State} → Reads true a b → Reads k b c → Reads k a c
reads_then {k} {a} {b} {c} p q = record {
  kept = λ clean. kept_by k a b c (p.kept (survives_clean b c q.looks clean)) (q.kept clean);
  looks = looks_then a b c p.looks p.kept q.looks;
  mode = λ h. q.mode (p.mode h);
}

none_kept : (j : Bool) (a b : State) → j ≡ false → OnTrue j (IsAsBefore a b)
none_kept true a b h = absurd (cc)
none_kept false a b h = tt

-- selections, and then a failure that reads no more
pub reads_failed : {j k : Bool} {a b : State} → j ≡ false → Reads k a b → Reads j a b
reads_failed {j} {k} {a} {b} failed p = record { kept = λ clean. none_kept j a b failed; looks = p.looks; mode = p.mode }

-- a query that can't write, and whose rows are all taken
pub queried : (sql : List ℕ) (params : Row) (old new : State) (r : Result (Vec Row Global) Error) → IsQuery sql → (HasCleanDisk new → IfOk r (λ rows. Shown sql params old new rows.items)) → (HasCleanDisk new → IfErr r (FailsToQuery sql params old new))
    → Survives old new (CommitsShowing sql params old) → (old.in_transaction ≡ false → new.in_transaction ≡ false) → Reads (is_ok r) old new
queried sql params old new (Ok rows) only ok err survives mode = record {
  kept = λ clean. shown_kept sql params old new rows.items only (ok clean);
  looks = looks sql params old new (Ok rows) only ok err survives;
  mode = mode;
}
queried sql params old new (Err e) only ok err survives mode = record {
  kept = λ clean. tt;
  looks = looks sql params old new (Err e) only ok err survives;
  mode = mode;
}
