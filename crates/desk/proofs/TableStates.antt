-- What calls of tables leave of the states for which they serve, and of those of which a crash
-- leaves one.
use Rattle.std.proofs.Common.{◌≡◌, ◌∙◌, ◌++◌, [], ◌∷◌, List, IsTrue, inl, inr, refl, sym, ap, subst, true, arith}
use Rattle.std.specs.Prelude.{Result, Ok, Err, IfErr}
use Rattle.std.proofs.lemmas.List.Elements.{Contains-append_left, Contains-push}
use Rattle.sqlite_trees.specs.declared.store.Store.{Ghosts}
use Rattle.sqlite_trees.specs.Tree.{Trees}
use Rattle.sqlite.specs.Effect.{Database}
use Rattle.sqlite.specs.Held.{Held, state}
use Rattle.sqlite.specs.State as sqlite
use Rattle.sqlite.specs.State.{HasCleanDisk, Survives}
use Rattle.tables.specs.Stands.{IsAsBefore, OnlySelects, Rests, StandsFor}
use Rattle.tables.specs.declared.fault.TablesFault.{TablesFault}
use Rattle.machine.specs.State.{State}
use Rattle.desk.specs.Indexes.{Commits, Reads, Refuses}
use Rattle.desk.specs.TableStates.{LeavesOneOf, ServesFor, leaves_more}
use Rattle.desk.specs.declared.index.IndexFault.{IndexFault}
use Rattle.desk.specs.declared.index.IndexFault.TheVariants.{Refused}

pub rests_on : (s t : sqlite.State) (m : State) → IsAsBefore s t → Rests s m → Rests t m
rests_on s t m same is = record {
  schema_is = ap (λ (d : Database). d.schema) same.0 ∙ is.schema_is;
  settled = same.1 ∙ (is.settled ∙ sym same.0);
  stands = subst (λ (d : Database). StandsFor d.trees m) (sym same.0) is.stands;
}

-- a call that commits nothing leaves what it left before
leaves_still : (s t : sqlite.State) (states : List State) → Survives s t (λ _. ⊥) → HasCleanDisk t → LeavesOneOf s states → LeavesOneOf t states
leaves_still s t states survives clean leaves db may = elim (survives.crash clean db may) [
  | inl was ↦ leaves db was
  | inr never ↦ absurd never
]

-- one that commits a state leaves that, too
leaves_both : (s t : sqlite.State) (states : List State) (n : State) → Survives s t (λ db. StandsFor db n) → HasCleanDisk t → LeavesOneOf s states → LeavesOneOf t (states ++ n ∷ [])
leaves_both s t states n survives clean leaves db may = elim (survives.crash clean db may) [
  | inl was ↦ let found = leaves db was in (found.0, Contains-append_left states (n ∷ []) found.0 found.1, found.2)
  | inr is ↦ (n, Contains-push states n, is)
]

-- a store that was asked whether it's open, and is
pub rests_when_asked : (old mid : sqlite.State) (m : State) → IsTrue old.is_open × IsAsBefore old mid → ServesFor old m → Rests mid m
rests_when_asked old mid m asked stood = rests_on old mid m asked.1 (stood asked.0)

-- tables keep their state in a store
may_refuse : {A : Type 0} (r : Result A IndexFault) → IfErr r (λ fault. fault ≡ Refused → true ≡ true)
may_refuse (Ok a) = tt
may_refuse (Err e) = λ _. refl

module _ {S : Type 0} (g : Ghosts S) where
  was_clean : (old mid : Held S) → Survives (state g old) (state g mid) (λ _. ⊥) → HasCleanDisk (state g mid) → HasCleanDisk (state g old)
  was_clean old mid asked clean = omega (arith, asked.clean)

  -- a selection of tables whose store was asked whether it's open, and is
  pub selected : {A B : Type 0} (found : Result A TablesFault) (answer : Result B IndexFault) (old mid new : Held S) → Survives (state g old) (state g mid) (λ _. ⊥)
      → (HasCleanDisk (state g mid) → IsTrue (state g old).is_open × IsAsBefore (state g old) (state g mid)) → OnlySelects found (state g mid) (state g new)
      → Reads (λ t m. ServesFor (state g t) m) (λ t states. LeavesOneOf (state g t) states) (λ t. HasCleanDisk (state g t)) true answer old new
  selected found answer old mid new asked was_open selects = record {
    reliable = λ clean. was_clean old mid asked (selects.clean clean);
    only = λ clean. record {
      state = λ m stood up.
          let rests = rests_when_asked (state g old) (state g mid) m (was_open (selects.clean clean)) stood in
          rests_on (state g mid) (state g new) m (selects.same clean up m rests) rests;
      left = λ m states stood leaves.
          let rests = rests_when_asked (state g old) (state g mid) m (was_open (selects.clean clean)) stood in
          leaves_still (state g mid) (state g new) states (selects.survives m rests) clean (leaves_still (state g old) (state g mid) states asked (selects.clean clean) leaves);
    };
    refused = may_refuse answer;
  }

  abbrev IsRefused : Held S → Held S → State → State → Type 0
  IsRefused = Refuses (λ t m. ServesFor (state g t) m) (λ t states. LeavesOneOf (state g t) states)

  abbrev IsMade : Held S → State → Type 0
  IsMade = Commits (λ t m. ServesFor (state g t) m) (λ t states. LeavesOneOf (state g t) states)

  -- a change before which the store refused already when it was asked
  pub refused_when_asked : (old new : Held S) (m n : State) → Survives (state g old) (state g new) (λ _. ⊥) → HasCleanDisk (state g new)
      → (IsTrue (state g new).is_open → IsTrue (state g old).is_open × ((k : State) → Rests (state g old) k → IsAsBefore (state g old) (state g new)))
      → ServesFor (state g old) m → IsRefused old new m n
  refused_when_asked old new m n survives clean same stood = record {
    state = λ up. let was = same up in let rests = stood was.0 in rests_on (state g old) (state g new) m (was.1 m rests) rests;
    left = λ states leaves. leaves_more states n (leaves_still (state g old) (state g new) states survives clean leaves);
  }

  -- a change that the store refused
  pub refused_change : (old mid new : Held S) (m n : State) → Survives (state g old) (state g mid) (λ _. ⊥) → HasCleanDisk (state g mid)
      → Survives (state g mid) (state g new) (λ db. StandsFor db n) → HasCleanDisk (state g new) → Rests (state g mid) m
      → (IsTrue (state g new).is_open → IsAsBefore (state g mid) (state g new)) → IsRefused old new m n
  refused_change old mid new m n asked mid_clean survives clean rests same = record {
    state = λ up. rests_on (state g mid) (state g new) m (same up) rests;
    left = λ states leaves. leaves_both (state g mid) (state g new) states n survives clean (leaves_still (state g old) (state g mid) states asked mid_clean leaves);
  }

  -- what is known of each open store: that a crash leaves what is committed
  abbrev pub IsSettled : Type 0
  IsSettled = (s : S) (db : Trees) → IsTrue (g.view s).is_open → g.recovers s db → db ≡ (g.view s).committed

  -- so tables at rest leave the one state
  pub leaves_alone : IsSettled → (h : Held S) (n : State) → IsTrue (state g h).is_open → Rests (state g h) n → LeavesOneOf (state g h) (n ∷ [])
  leaves_alone settled h n up rests db may =
      let committed : db ≡ (state g h).now.trees = settled h.store db up may ∙ ap (λ (d : Database). d.trees) rests.settled in
      (n, Contains-push [] n, subst (λ trees. StandsFor trees n) (sym committed) rests.stands)

  -- a change that was made
  pub made_change : IsSettled → (new : Held S) (n : State) → IsTrue (state g new).is_open → Rests (state g new) n → IsMade new n
  made_change settled new n up rests = record { state = λ _. rests; left = leaves_alone settled new n up rests }
