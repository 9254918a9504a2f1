use Rattle.std.proofs.Common.{Option, map, drop}
use Rattle.dump.specs.Requests.{IsFirst}
use Rattle.machine.specs.Selections.{RangeFound, range_found}
use Rattle.machine.specs.State.{State}
use Rattle.desk.specs.Steps.Rows.{RowSpeaks}
use Rattle.desk.specs.Indexes.{ReadsOnly}
use Rattle.desk.proofs.rows.ranges.first_speaking.Given as goal

abbrev pub invariant-loop-range : goal.invariant-loop-range
invariant-loop-range g l =
    let stands = g.I.Index.stands in
    let is_reliable = g.I.Index.is_reliable in
    record {
      reliable : is_reliable l.index → is_reliable l.fn.index;
      reads_only : is_reliable l.index → ReadsOnly stands g.I.Index.may_leave l.fn.index l.index;
      first : is_reliable l.index → (m : State) → stands l.fn.index m → (o : Option RangeFound) → IsFirst (RowSpeaks m l.request l.project) (map range_found (drop l.range-index l.ranges)) o → IsFirst (RowSpeaks m l.request l.project) (map range_found l.ranges) o;
    }
