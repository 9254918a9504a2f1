-- Connections of a server, one after the other.
use Rattle.std.proofs.Common.{ℕ, Bool, List, [], Option, None, Err, Result, refl}
use Rattle.machine.specs.State.{State}
use Rattle.streams.specs.Streams.{Output}
use Rattle.http_edge.specs.Serving.{Serves, session}
use Rattle.http_edge.specs.declared.serve.ServeFault.{ServeFault}
use Rattle.http_edge.specs.declared.serve.ServeFault.TheVariants.{Memory}
use Rattle.calls.specs.Serve.{ConnectionValue, ServesConnection, most_requests}

-- a connection of which nothing is read or written
abbrev pub unheard : ConnectionValue
unheard = record { messages = []; answers = [] }

abbrev unknown : Output
unknown = record { taken = None; failures = 0; zero_writes = 0 }

pub stays : (store_may_refuse : Bool) (m : State) → ServesConnection store_may_refuse m unheard m
stays store_may_refuse m = (None, None, unknown, unknown, Err Memory, (refl, refl, refl, refl, refl))

pub serves : (store_may_refuse : Bool) (m n : State) (c : ConnectionValue) (left left' : Option (List ℕ)) (output output' : Output) (result : Result ℕ ServeFault)
    → Serves store_may_refuse most_requests (session left left' output output' c.messages c.answers) m n result → ServesConnection store_may_refuse m c n
serves store_may_refuse m n c left left' output output' result h = (left, left', output, output', result, h)
