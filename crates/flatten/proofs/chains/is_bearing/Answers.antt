use Rattle.std.proofs.Common.{◌∙◌, ap}
use Rattle.flatten.specs.Flat.{number_of}
use Rattle.flatten.specs.Steps.Chains.{is_source}
use Rattle.flatten.proofs.ChainWalks.{is_source_by}
use Rattle.flatten.proofs.chains.is_bearing.Goals as goal

pub returns-in-Some : goal.returns-in-Some
returns-in-Some c = c.is_some.ensures ∙ is_source_by c.args.borne.now c.in-Some.number c.target_of.result c.target_of.ensures.some c.target_of.ensures.none ∙ ap (is_source c.args.borne.now) (c.in-Some.ensures ∙ ap (number_of c.args.dump.now.elements) c.lent.ensures)
