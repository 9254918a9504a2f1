use Rattle.std.proofs.Common.{◌≡◌, ◌++◌, List, false}
use Rattle.std.specs.Prelude.{is_some}
use Rattle.lsif.specs.Element.{IdValue}
use Rattle.dump.specs.Graph.{is_among, has_repeated}
use Rattle.dump.specs.Steps.Ids.{value_at}
use Rattle.dump.proofs.ids.is_repeating.Given as goal

-- the table has the ids that were passed, and none of them was passed twice
abbrev pub invariant-loop-id : goal.invariant-loop-id
invariant-loop-id l = record {
  front : List IdValue;
  split : front ++ l.id-iterator ≡ l.fn.ids;
  seen : (i : IdValue) → is_some (value_at l.seen i) ≡ is_among i front;
  none : has_repeated front ≡ false;
}
