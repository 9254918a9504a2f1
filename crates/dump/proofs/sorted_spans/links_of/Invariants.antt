use Rattle.std.proofs.Common.{◌≡◌, length}
use Rattle.dump.specs.Steps.Spans.{HasLinks}
use Rattle.dump.proofs.sorted_spans.links_of.Given as goal

abbrev pub invariant-loop-span : goal.invariant-loop-span
invariant-loop-span l = record {
  len : length l.links.items ≡ l.span-index;
  links : HasLinks l.spans l.links.items;
}
