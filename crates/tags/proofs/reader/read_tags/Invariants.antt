use Rattle.std.proofs.Common.{◌≡◌, fold, length}
use Rattle.tags.specs.Steps.Readings.{readings_of}
use Rattle.tags.specs.States.{listed, next}
use Rattle.tags.proofs.LineLemmas.{after_all}
use Rattle.tags.proofs.reader.read_tags.Given as goal

abbrev pub invariant-loop-line : goal.invariant-loop-line
invariant-loop-line l = fold (next listed) l.reader (readings_of l.rest) ≡ after_all (readings_of l.text)

abbrev pub decreases-loop-line : goal.decreases-loop-line
decreases-loop-line l = length l.rest
