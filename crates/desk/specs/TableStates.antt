-- Which states the tables of an open connection serve for, and of which states a crash leaves one.
use Rattle.std.specs.Prelude.{◌++◌, [], ◌∷◌, List, IsTrue, Contains}
use Rattle.std.proofs.lemmas.List.Elements.{Contains-append_left}
use Rattle.sqlite_trees.specs.Tree.{Trees}
use Rattle.sqlite.specs.State as sqlite
use Rattle.tables.specs.Stands.{Rests, StandsFor}
use Rattle.machine.specs.State.{State}

-- The tables are those of the state. A store that a fault has shut serves for every state: it
-- answers nothing any more.
abbrev pub ServesFor : sqlite.State → State → Type 0
ServesFor s m = IsTrue s.is_open → Rests s m

-- each database that a crash now may leave represents one of these states
abbrev pub AreOf : (Trees → Type 0) → List State → Type 0
AreOf may_leave states = (db : Trees) → may_leave db → (n : State) × Contains states n × StandsFor db n

abbrev pub LeavesOneOf : sqlite.State → List State → Type 0
LeavesOneOf s states = AreOf s.may_leave states

-- so for one of these and another
pub leaves_more : {may_leave : Trees → Type 0} (states : List State) (n : State) → AreOf may_leave states → AreOf may_leave (states ++ n ∷ [])
leaves_more states n leaves db may =
    let found = leaves db may in
    (found.0, Contains-append_left states (n ∷ []) found.0 found.1, found.2)
