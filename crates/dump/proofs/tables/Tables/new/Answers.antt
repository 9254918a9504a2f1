use Rattle.std.proofs.Common.{ap, length, arith, option_and_then}
use Rattle.std.proofs.lemmas.Map.Text.{text_keys}
use Rattle.dump.specs.Steps.Links.{cell}
use Rattle.dump.proofs.Fills.{kept_nothing}
use Rattle.dump.proofs.tables.Tables.new.Goals as goal

pub returns : goal.returns
returns c = record {
  elements = c.new.ensures;
  rows = ap length c.new-2.ensures.items;
  links = λ l i. ap (option_and_then (λ n. cell c.new-2.result.items n l)) (c.new.ensures i);
  documents = λ uri. grind (arith, text_keys);
  spans = λ v. kept_nothing _ (c.new-3.ensures v);
}
