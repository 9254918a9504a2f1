-- A transaction that ends by its commit.
use Rattle.std.proofs.Common.{◌≡◌, inl, inr, sym, subst, ◌∙◌, arith, IsTrue, Result, Ok, Err, IfErr, OnErr, true}
use Rattle.sqlite_trees.specs.Tree.{Trees}
use Rattle.sqlite.specs.Held.{Held, state}
use Rattle.sqlite.specs.Store.{Ghosts}
use Rattle.sqlite.specs.State.{Survives, HasCleanDisk, KeepsCommit}
use Rattle.sqlite.specs.Steps.{FailsToCommit}
use Rattle.sqlite.specs.declared.error.Error.{Error}
use Rattle.sqlite.proofs.Callers.{survives_begin}
use Rattle.sqlite.proofs.StateLemmas.{survives_then}

-- a crash leaves what it could leave before, or all that the transaction commits
pub whole : {S : Type 0} (g : Ghosts S) (P : Trees → Type 0) (old last end : Held S) → Survives (state g (record old { in_transaction = true })) (state g last) (λ _. ⊥)
    → (HasCleanDisk (state g last) → P (state g last).now.trees)
    → Survives (state g last) (state g end) (λ db. db ≡ (state g last).now.trees)
    → Survives (state g old) (state g end) P
whole {S} g P old last end inside holds commits =
    survives_then (state g old) (state g last) (state g end) (λ _. ⊥) (λ db. db ≡ (state g last).now.trees) P (λ _ db none. absurd none)
    (λ clean db is. subst P (sym is) (holds (omega (arith, commits.clean))))
    (survives_begin g old (state g last) (λ _. ⊥) inside) commits

-- a commit that fails leaves what was committed before
pub undone : {S A : Type 0} (g : Ghosts S) (old last end : Held S) (r : Result A Error) → KeepsCommit (state g (record old { in_transaction = true })) (state g last) → IfErr r (FailsToCommit (state g last) (state g end))
    → IsTrue (state g last).in_transaction → IsTrue (state g end).is_open → (state g old).committed ≡ (state g old).now → OnErr r (((state g end).now ≡ (state g old).now) × ((state g end).committed ≡ (state g old).committed))
undone g old last end (Ok x) keeps fails inside up settled = tt
undone g old last end (Err e) keeps fails inside up settled = elim fails [
  | inl failed ↦
      let back = failed.3.undone up in
      let kept = keeps.committed (failed.3.was_open up) in
      (back.0 ∙ (kept ∙ settled), back.1 ∙ kept)
  | inr ended ↦ absurd (let off = ended.1 in cc)
]
