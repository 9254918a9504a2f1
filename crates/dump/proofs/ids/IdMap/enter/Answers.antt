use Rattle.std.proofs.Common.{sym, arith}
use Rattle.std.proofs.lemmas.Map.Text.{text_keys}
use Rattle.dump.proofs.EachId.{each_id}
use Rattle.dump.proofs.Slots.{entered_not}
use Rattle.dump.proofs.ids.IdMap.enter.Goals as goal

pub returns-in_ok-self-in-Text-clause-ok : goal.returns-in_ok-self-in-Text-clause-ok
returns-in_ok-self-in-Text-clause-ok g c = each_id _ (λ n. rw c.in-Text.is (sym (entered_not c.args.value _))) (λ s. rw c.in-Text.is (grind (arith, text_keys)))
