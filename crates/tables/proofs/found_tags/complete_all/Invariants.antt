use Rattle.std.proofs.Common.{◌≡◌, length, map, option_map, true}
use Rattle.sqlite.specs.State.{HasCleanDisk}
use Rattle.sqlite.specs.Held.{state}
use Rattle.tables.specs.Schema.{schema_two}
use Rattle.machine.specs.State.{State}
use Rattle.tables.specs.Stands.{StandsFor}
use Rattle.machine.specs.Found.{tag_found}
use Rattle.tables.specs.Steps.Slots.{IsNamed}
use Rattle.tables.specs.Steps.TagRows.{AllTell, FindsTags}
use Rattle.tables.specs.Steps.Clauses.{Reads}
use Rattle.tables.proofs.found_tags.complete_all.Given as goal

abbrev pub invariant-loop-row : goal.invariant-loop-row
invariant-loop-row g l =
    let old = state g.S.Store l.fn.conn in
    let now = state g.S.Store l.conn in
    record {
      reads : Reads true old now;
      named : IsNamed now l.named;
      finds : HasCleanDisk now → old.now.schema ≡ schema_two → (m : State) → StandsFor old.now.trees m → AllTell old.now.trees m l.fn.rows.items
          → FindsTags old.now.trees m (option_map (λ p. p.now) l.fn.asked) l.fn.rows.items l.left.items (map tag_found l.found.items);
    }

abbrev pub decreases-loop-row : goal.decreases-loop-row
decreases-loop-row g l = length l.left.items
