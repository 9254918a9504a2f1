-- Calls of an index that change nothing, one after the other.
use Rattle.std.specs.Prelude.{List}
use Rattle.machine.specs.State.{State}
use Rattle.desk.specs.Indexes.{ReadsOnly}

pub reads_then : {I : Type 0} {stands : I → State → Type 0} {may_leave : I → List State → Type 0} {a b c : I} → ReadsOnly stands may_leave a b → ReadsOnly stands may_leave b c → ReadsOnly stands may_leave a c
reads_then first then = record {
  state = λ m stood. then.state m (first.state m stood);
  left = λ m states stood leaves. then.left m states (first.state m stood) (first.left m states stood leaves);
}
