use Rattle.std.proofs.Common.{◌<◌, length, map}
use Rattle.lsif.specs.Element.{element_value}
use Rattle.dump.specs.Walks.{next_pairs}
use Rattle.dump.proofs.Shortcuts.{Nearing}
use Rattle.dump.proofs.chain_ends.end_of.Given as goal

abbrev pub invariant-loop-step : goal.invariant-loop-step
invariant-loop-step l = record {
  near : Nearing (next_pairs (map element_value l.elements)) (map element_value l.elements) l.index l.at l._step;
  inside : l.at < length l.shortcuts;
}
