use Rattle.std.proofs.Common.{◌∙◌, ap}
use Rattle.tags.specs.Steps.Reading.{ordinary_of}
use Rattle.tags.proofs.PartLemmas.{one_cut}
use Rattle.tags.proofs.SaidLemmas.{ordinary_of-line, ordinary_of-no_front, ordinary_of-no_address}
use Rattle.tags.proofs.laws.grammar_law.Goals as goal

pub returns-clause-one_cut : goal.returns-clause-one_cut
returns-clause-one_cut c = one_cut

pub returns-clause-one_tag : goal.returns-clause-one_tag
returns-clause-one_tag c = λ t line h. ap ordinary_of h.1 ∙ ordinary_of-line t h.0

pub returns-clause-no_front : goal.returns-clause-no_front
returns-clause-no_front c = ordinary_of-no_front

pub returns-clause-no_address : goal.returns-clause-no_address
returns-clause-no_address c = ordinary_of-no_address
