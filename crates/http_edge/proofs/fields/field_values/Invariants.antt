use Rattle.std.proofs.Common.{◌≡◌, drop, map}
use Rattle.httparse.specs.Spans.{header_bytes}
use Rattle.http_edge.specs.Fields.{field_values}
use Rattle.http_edge.specs.Steps.Fields.{field_values_of}
use Rattle.http_edge.specs.Values.{values}
use Rattle.http_edge.specs.Steps.Values.{with_values}
use Rattle.http_edge.proofs.fields.field_values.Given as goal

abbrev pub invariant-loop-header : goal.invariant-loop-header
invariant-loop-header l =
    with_values (field_values_of l.found) (field_values l.name (map (header_bytes l.head) (drop l.header-index l.headers)))
    ≡ values (field_values l.name (map (header_bytes l.head) l.headers))
