-- When documents begin and end (LSIF 0.6.0, "Events").
use Rattle.std.specs.Prelude.{ℕ, List, codes, bytes_eq, Option, Some, None, option_and_then, if◌then◌else◌}
use Rattle.serde_json.specs.Data.{Data}
use Rattle.lsif.specs.Element.{IdValue, EventValue, begin_event, end_event, other_event}
use Rattle.lsif.specs.Ids.{id_at, text_at}

abbrev pub event_of : List ℕ → IdValue → Option EventValue
event_of kind document =
    if bytes_eq kind (codes "begin") then Some (begin_event document)
    else if bytes_eq kind (codes "end") then Some (end_event document)
    else None

-- an event of document scope
unfoldable pub document_event_in : Data → Option EventValue
document_event_in d =
    option_and_then (λ kind. option_and_then (event_of kind) (id_at (codes "data") d))
    (text_at (codes "kind") d)

abbrev pub event_by : List ℕ → Data → Option EventValue
event_by scope d = if bytes_eq scope (codes "document") then document_event_in d else Some other_event

-- an event; the other members of one of another scope aren't looked at
unfoldable pub event_in : Data → Option EventValue
event_in d = option_and_then (λ scope. event_by scope d) (text_at (codes "scope") d)
