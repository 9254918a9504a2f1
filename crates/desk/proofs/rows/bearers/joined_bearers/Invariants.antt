use Rattle.std.proofs.Common.{◌⊎◌, drop, map, string_bytes}
use Rattle.std.specs.Prelude.{◌↔◌, Contains}
use Rattle.machine.specs.State.{State}
use Rattle.desk.specs.Steps.Rows.{AreJoined, JoinedValue, joined_value}
use Rattle.desk.specs.Indexes.{ReadsOnly}
use Rattle.desk.proofs.rows.bearers.joined_bearers.Given as goal

abbrev pub invariant-loop-key : goal.invariant-loop-key
invariant-loop-key g l =
    let stands = g.I.Index.stands in
    let is_reliable = g.I.Index.is_reliable in
    record {
      reliable : is_reliable l.index → is_reliable l.fn.index;
      reads_only : is_reliable l.index → ReadsOnly stands g.I.Index.may_leave l.fn.index l.index;
      found : is_reliable l.index → (m : State) → stands l.fn.index m → (j : JoinedValue)
          → (Contains (map joined_value l.found.items) j ⊎ AreJoined m l.request l.own (map string_bytes (drop l.key-index l.keys)) j) ↔ AreJoined m l.request l.own (map string_bytes l.keys) j;
    }
