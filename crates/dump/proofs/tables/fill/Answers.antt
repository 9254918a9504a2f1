use Rattle.std.proofs.Common.{arith}
use Rattle.std.proofs.lemmas.Map.Text.{text_keys}
use Rattle.dump.proofs.tables.fill.Goals as goal

pub returns-in_ok-table-in-Text-clause-ok : goal.returns-in_ok-table-in-Text-clause-ok
returns-in_ok-table-in-Text-clause-ok c = grind (arith, text_keys)

pub returns-in_ok-table-in-Text-clause-err : goal.returns-in_ok-table-in-Text-clause-err
returns-in_ok-table-in-Text-clause-err c = grind (arith, text_keys)
