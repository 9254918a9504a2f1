use Rattle.std.proofs.Common.{◌∙◌, sym}
use Rattle.std.proofs.lemmas.List.{take_rest}
use Rattle.tags.proofs.EscapeLemmas.{decodable-step, decodable-stop, decodable-end}
use Rattle.tags.proofs.escape.is_decodable.Goals as goal

pub returns-in_default-escape_at : goal.returns-in_default-escape_at
returns-in_default-escape_at c =
    sym (decodable-stop c.escapes.rest.now _ c.in-Some.escape.now (sym c.in-Some.ensures.value) (sym c.in_default-escape_at.ensures.value)) ∙ c.escapes.invariant

pub escapes-preserved : goal.escapes-preserved
escapes-preserved c =
    rw take_rest (decodable-step c.escapes.rest.now _ c.in-Some.escape.now _ _ (sym c.in-Some.ensures.value) (sym c.in-Some-escape_at.ensures.value) ∙ c.escapes.invariant)

pub returns : goal.returns
returns c = sym (decodable-end c.escapes.rest.now (sym c.in_default.ensures.value)) ∙ c.escapes.invariant
