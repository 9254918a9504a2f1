use Rattle.std.proofs.Common.{refl}
use Rattle.lsif.specs.Element.{id_value}
use Rattle.flatten.specs.Steps.Chains.{along_value}
use Rattle.flatten.proofs.ChainWalks.{results_along}
use Rattle.flatten.proofs.NumberPairs.{vertex_numbers}
use Rattle.flatten.proofs.RangeRows.{at_of}
use Rattle.flatten.proofs.ranges.found_range.Goals as goal

pub returns-clause-found : goal.returns-clause-found
returns-clause-found c =
    let d = c.args.chains.now.dump.now.elements in
    let free = c.requires.faultless in
    let r = id_value c.args.id.now in (
      refl,
      record {
        range = r;
        at_line = c.requires.number;
        is_at = at_of d (c.container_law.ensures d free) r c.args.uri.now c.args.span.now c.requires.uri c.requires.range;
        are_results = results_along d (c.ends_law.ensures d free) (vertex_numbers d (c.line_law.ensures.there d free)) c.args.chains.now.borne.items r (along_value c.in_ok-along.along) c.in_ok-along.ensures.along;
      },
    )
