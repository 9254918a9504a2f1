-- What a crash leaves of a migration.
use Rattle.std.proofs.Common.{inl, inr, sym, subst}
use Rattle.sqlite_trees.specs.Tree.{Trees}
use Rattle.sqlite.specs.Effect.{Database}
use Rattle.sqlite.specs.State.{State, Survives, IsUnchanged}
use Rattle.sqlite.proofs.StateLemmas.{survives_then}
use Rattle.tables.specs.Databases.{IsFormatOne, WasUpgraded}

pub weaker : (a b : State) (P : Trees → Type 0) → Survives a b (λ _. ⊥) → Survives a b P
weaker a b P s = record { clean = s.clean; shield = s.shield; counts = s.counts; limit = s.limit; closes = s.closes; crash = λ good db left. elim (s.crash good db left) [ inl was ↦ inl was | inr none ↦ absurd none ] }

-- first the version is read, then the tables are made
pub migrates : (a b c : State) → IsFormatOne a.now → IsUnchanged a b → Survives a b (λ _. ⊥) → (IsFormatOne b.now → Survives b c (WasUpgraded b.now.trees)) → Survives a c (WasUpgraded a.now.trees)
migrates a b c is same first next =
    let now = same.0.now_is in
    let later : Survives b c (WasUpgraded a.now.trees) = subst (λ (d : Database). Survives b c (WasUpgraded d.trees)) now (next (subst IsFormatOne (sym now) is)) in
    survives_then a b c (λ _. ⊥) (WasUpgraded a.now.trees) (WasUpgraded a.now.trees) (λ _ db none. absurd none) (λ _ db it. it) first later

-- what is left is said otherwise
pub implied : (a b : State) (P Q : Trees → Type 0) → ((db : Trees) → P db → Q db) → Survives a b P → Survives a b Q
implied a b P Q says s = record { clean = s.clean; shield = s.shield; counts = s.counts; limit = s.limit; closes = s.closes; crash = λ good db left. elim (s.crash good db left) [ inl was ↦ inl was | inr it ↦ inr (says db it) ] }
