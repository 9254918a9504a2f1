use Rattle.std.proofs.Common.{◌≡◌, ◌++◌, length, map, reverse, string_bytes, true}
use Rattle.std.specs.List.{AllByRecursion}
use Rattle.sqlite.specs.State.{HasCleanDisk}
use Rattle.sqlite.specs.Held.{state}
use Rattle.dump.specs.Places.{IsListing}
use Rattle.tables.specs.Schema.{schema_two}
use Rattle.tables.specs.Contents.{Contents, Replies, Keeps}
use Rattle.machine.specs.State.{State}
use Rattle.tables.specs.Stands.{StandsFor}
use Rattle.machine.specs.Projects.{text_cmp}
use Rattle.machine.specs.Found.{project_found}
use Rattle.tables.specs.Steps.Slots.{HasPart, IsTold}
use Rattle.tables.proofs.ProjectNames.{names_of}
use Rattle.tables.specs.Steps.Clauses.{Reads}
use Rattle.tables.proofs.projects.list_projects.Given as goal

abbrev pub invariant-loop-name : goal.invariant-loop-name
invariant-loop-name g l =
    let old = state g.S.Store l.fn.conn in
    let now = state g.S.Store l.conn in
    record {
      reads : Reads true old now;
      names : HasCleanDisk now → old.now.schema ≡ schema_two → (parts : Contents) (replies : Replies) → Keeps old.now.trees parts replies → IsListing text_cmp (HasPart parts) (names_of l.found.items ++ reverse (map string_bytes l.left.items));
      told : HasCleanDisk now → old.now.schema ≡ schema_two → (m : State) → StandsFor old.now.trees m → AllByRecursion (IsTold m) (map project_found l.found.items);
    }

abbrev pub decreases-loop-name : goal.decreases-loop-name
decreases-loop-name g l = length l.left.items
