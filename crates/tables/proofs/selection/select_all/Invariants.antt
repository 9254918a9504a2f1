use Rattle.std.proofs.Common.{◌≡◌, List, false}
use Rattle.std.specs.List.{AllByRecursion}
use Rattle.sqlite_value.specs.Order.{Row}
use Rattle.sqlite.specs.Values.{bound}
use Rattle.sqlite.specs.State.{HasCleanDisk, IsUnchanged}
use Rattle.sqlite.specs.Held.{state}
use Rattle.sqlite.specs.Given.{HasGiven}
use Rattle.tables.specs.Steps.Selected.{AreRead, Looks}
use Rattle.tables.proofs.selection.select_all.Given as goal

abbrev pub invariant-rows : goal.invariant-rows
invariant-rows g l =
    let old = state g.S.Store l.fn.conn in
    let now = state g.S.Store l.rows.conn.now in
    record {
      same_reference : l.rows.conn.ghost_name ≡ l.initial.rows.conn.ghost_name;
      looks : Looks old now;
      mode : l.fn.conn.in_transaction ≡ false → l.rows.conn.now.in_transaction ≡ false;
      given : List Row;
      is_given : HasCleanDisk now → HasGiven g.S.Store l.sql (bound l.params) l.rows.conn.now given × IsUnchanged old now;
      read : AreRead g.T.Listed.columns given l.found.items;
      sound : AllByRecursion g.T.Listed.is_sound l.found.items;
    }
