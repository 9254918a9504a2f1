use Rattle.std.proofs.Common.{◌≡◌, ℕ, List, map, take, Some, true}
use Rattle.std.specs.List.{AllByRecursion, AllZip}
use Rattle.sqlite.specs.State.{HasCleanDisk}
use Rattle.sqlite.specs.Held.{state}
use Rattle.sqlite_rules.specs.Lists.{Has}
use Rattle.dump.specs.Progress.{DumpValue}
use Rattle.flatten.specs.Flat.{RangeRowValue, IsRangeRow}
use Rattle.tables.specs.declared.slots.Part.TheVariants.{Dump}
use Rattle.tables.specs.Schema.{schema_two}
use Rattle.tables.specs.Contents.{slot_row}
use Rattle.machine.specs.State.{State}
use Rattle.tables.specs.Stands.{StandsFor}
use Rattle.machine.specs.Selections.{range_found}
use Rattle.tables.specs.Steps.Climbs.{TellsRange, row_found}
use Rattle.tables.specs.TableTrees.{slot_tree}
use Rattle.tables.specs.Steps.Clauses.{Reads}
use Rattle.tables.proofs.covering.ranges_in.Given as goal

abbrev pub invariant-loop-row : goal.invariant-loop-row
invariant-loop-row g l =
    let old = state g.S.Store l.fn.conn in
    let now = state g.S.Store l.conn in
    record {
      reads : Reads true old now;
      cleans : HasCleanDisk now → HasCleanDisk (state g.S.Store l.initial.conn);
      found : HasCleanDisk now → old.now.schema ≡ schema_two → (m : State) → StandsFor old.now.trees m → (project : List ℕ) (dump : DumpValue) → Has (old.now.trees slot_tree) (slot_row l.fn.slot project Dump) → m.dump project ≡ Some dump
          → (rows : List RangeRowValue) → AllZip TellsRange l.row-items rows → AllByRecursion (IsRangeRow dump.elements) rows → map range_found l.found.items ≡ map (row_found l.fn.request) (take l.row-index rows);
    }
