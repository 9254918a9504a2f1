use denote.Shadow.{shadow}
use denote.Text.{Utf8}
use Rattle.std.proofs.Common.{◌≡◌, length, string_bytes}
use Rattle.tags.specs.Escapes.{decoded}
use Rattle.tags.proofs.EscapeLemmas.{front}
use Rattle.tags.proofs.escape.decode.Given as goal

abbrev pub invariant-loop-before : goal.invariant-loop-before
invariant-loop-before l = record {
  text : shadow (Utf8 l.rest);
  value : front (string_bytes l.value) (decoded l.rest) ≡ decoded l.written;
}

abbrev pub decreases-loop-before : goal.decreases-loop-before
decreases-loop-before l = length l.rest
