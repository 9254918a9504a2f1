use Rattle.std.proofs.Common.{arith, refl}
use Rattle.std.proofs.lemmas.Map.Text.{text_keys}
use Rattle.dump.proofs.EachId.{each_id}
use Rattle.dump.proofs.ids.IdMap.remove.Goals as goal

pub returns-in-Text : goal.returns-in-Text
returns-in-Text g c = each_id _ (λ n. rw c.in-Text.is refl) (λ s. rw c.in-Text.is (grind (arith, text_keys)))
