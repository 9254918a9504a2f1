use Rattle.std.proofs.Common.{◌∙◌, ap, get_or, None, refl}
use Rattle.lsif.specs.Element.{number, text}
use Rattle.dump.proofs.EachId.{each_id}
use Rattle.dump.proofs.Slots.{slot_or_none}
use Rattle.dump.proofs.index_map.IndexMap.new.Goals as goal

pub returns : goal.returns
returns c = each_id _ (λ n. slot_or_none _ _ _ (ap (λ slots. get_or slots n None) c.new.ensures.items ∙ refl) (c.new-2.ensures (number n))) (λ s. c.new-2.ensures (text s))
