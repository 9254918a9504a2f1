use Rattle.tags.specs.Views.{part_values}
use Rattle.tags.proofs.PartLemmas.{split_is, split_slices}
use Rattle.tags.proofs.parts.split.Goals as goal

pub returns-clause-cut : goal.returns-clause-cut
returns-clause-cut c = split_is (λ parts. part_values parts.items) c.parts_of.result c.args.line.now c.parts_of.ensures

pub returns-clause-slices : goal.returns-clause-slices
returns-clause-slices c = split_slices (λ parts. part_values parts.items) c.parts_of.result c.args.line.now c.parts_of.ensures
