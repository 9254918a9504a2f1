use Rattle.std.proofs.Common.{◌≡◌, ◌<◌, length, map}
use Rattle.std.specs.Prelude.{vec_len, vec_capacity}
use Rattle.lsif.specs.Element.{element_value}
use Rattle.dump.specs.Walks.{next_pairs}
use Rattle.dump.proofs.Shortcuts.{Nearing}
use Rattle.dump.specs.Steps.Chains.{HasShortcuts}
use Rattle.dump.proofs.chain_ends.shorten.Given as goal

abbrev pub invariant-loop-step : goal.invariant-loop-step
invariant-loop-step l = record {
  shortcuts : HasShortcuts (next_pairs (map element_value l.elements)) (map element_value l.elements) l.shortcuts.items;
  near : Nearing (next_pairs (map element_value l.elements)) (map element_value l.elements) l.index l.at l._step;
  inside : l.at < length l.shortcuts.items;
  len : vec_len l.shortcuts ≡ vec_len l.fn.shortcuts;
  capacity : vec_capacity l.shortcuts ≡ vec_capacity l.fn.shortcuts;
}
