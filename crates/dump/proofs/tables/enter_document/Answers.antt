use Rattle.std.proofs.Common.{arith}
use Rattle.std.proofs.lemmas.Map.Text.{text_keys}
use Rattle.dump.proofs.tables.enter_document.Goals as goal

pub returns-clause-ok : goal.returns-clause-ok
returns-clause-ok c = λ uri. grind (arith, text_keys)
