use Rattle.std.proofs.Common.{◌≡◌, ℕ, List, Some, true}
use Rattle.sqlite.specs.State.{HasCleanDisk}
use Rattle.sqlite.specs.Held.{state}
use Rattle.sqlite_rules.specs.Lists.{Has}
use Rattle.dump.specs.Progress.{DumpValue}
use Rattle.tables.specs.declared.slots.Part.TheVariants.{Dump}
use Rattle.tables.specs.Schema.{schema_two}
use Rattle.tables.specs.Contents.{slot_row}
use Rattle.machine.specs.State.{State}
use Rattle.tables.specs.Stands.{StandsFor}
use Rattle.tables.specs.Steps.Climbs.{weight}
use Rattle.tables.specs.TableTrees.{slot_tree}
use Rattle.tables.proofs.Climbing.{ClimbsTo}
use Rattle.tables.specs.Steps.Clauses.{Reads}
use Rattle.tables.proofs.covering.climb.Given as goal

abbrev pub invariant-loop-next : goal.invariant-loop-next
invariant-loop-next g l =
    let old = state g.S.Store l.fn.conn in
    let now = state g.S.Store l.conn in
    record {
      reads : Reads true old now;
      climbs : HasCleanDisk now → old.now.schema ≡ schema_two → (m : State) → StandsFor old.now.trees m → (project : List ℕ) (dump : DumpValue) → Has (old.now.trees slot_tree) (slot_row l.fn.slot project Dump) → m.dump project ≡ Some dump
          → ClimbsTo dump l.uri l.fn.at l.found.items l.next;
    }

abbrev pub decreases-loop-next : goal.decreases-loop-next
decreases-loop-next g l = weight l.next
