-- What the vertices of other projects say of a range (LSIF 0.6.0, "Multiple Projects": a symbol
-- that one project imports is found where another exports a moniker of the same key).
use Rattle.std.specs.Prelude.{◌≡◌, ◌≢◌, true, List, ℕ, Some}
use Rattle.lsif.specs.Element.{IdValue}
use Rattle.lsif.specs.declared.request_kind.RequestKind.{RequestKind}
use Rattle.dump.specs.Monikers.{MarkValue, Bears, Marks}
use Rattle.dump.specs.Progress.{DumpValue}
use Rattle.lsif.specs.RequestKinds.{follows, finds}
use Rattle.machine.specs.State.{State}

-- the vertex y there, in another project, is joined to the range r here, in this project's dump: a
-- mark that r has and one that y has itself are of one moniker, by kinds that the request follows
-- here and finds there
pub record IsJoined (m : State) (request : RequestKind) (project : List ℕ) (dump : DumpValue) (r : IdValue) (other : List ℕ) (second : DumpValue)
    (y : IdValue) : Type 0 where
  pub elsewhere : other ≢ project
  pub is_there : m.dump other ≡ Some second
  pub here : MarkValue
  pub there : MarkValue
  pub here_marked : Marks dump.elements r here
  pub there_marked : Bears second.elements y there
  pub kinds : (follows request here.kind ≡ true) × (finds request there.kind ≡ true)
  pub same_moniker : here.key ≡ there.key
