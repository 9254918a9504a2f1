use Rattle.std.proofs.Common.{◌∙◌, sym}
use Rattle.tags.proofs.ContentLemmas.{reads_tag}
use Rattle.tags.proofs.content.ordinary_tag.Goals as goal

pub returns-in-None : goal.returns-in-None
returns-in-None c =
    let texts = c.in-Some.ensures.texts c.requires in
    reads_tag c.args.line.now c.in-Some.front c.in-Some-tail_of.tail (sym c.in-Some.ensures.value)
    (sym c.is_decodable.ensures ∙ c.if-not-is_decodable.false)
    (sym c.is_decodable-else-not-is_decodable.ensures ∙ c.if-not-is_decodable-2.false)
    (sym c.in-Some-tail_of.ensures.value) (sym c.in-None.ensures)
    texts (c.in-Some-tail_of.ensures.texts texts.2)
