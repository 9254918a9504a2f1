-- A head as the program has it.
use Rattle.std.specs.Prelude.{ℕ, List, ⊤}
use Rattle.httparse.specs.Spans.{span_bytes, IsWithin}
use Rattle.http_edge.specs.declared.head.Head.{Head}
use Rattle.http_edge.specs.declared.head.Head.TheVariants.{Refused, Request}
use Rattle.http_edge.specs.Heads.{HeadValue, rejected, request_head}

abbrev pub head_value : List ℕ → Head → HeadValue
head_value bytes (Refused refusal) = rejected refusal
head_value bytes (Request line len) = request_head (span_bytes bytes line.method) (span_bytes bytes line.target) len

-- the request line lies in so many bytes
abbrev pub FitsIn : ℕ → Head → Type 0
FitsIn n (Refused refusal) = ⊤
FitsIn n (Request line len) = IsWithin n line.method × IsWithin n line.target
