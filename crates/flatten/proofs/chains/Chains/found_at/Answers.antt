use Rattle.std.proofs.Common.{◌≡◌, ◌∙◌, sym, ap, subst, arith}
use Rattle.std.specs.Prelude.{Contains, Some}
use Rattle.std.proofs.lemmas.List.Elements.{Contains-get_or}
use Rattle.lsif.specs.Element.{id_value}
use Rattle.flatten.specs.Flat.{number_of}
use Rattle.flatten.specs.Steps.Chains.{vertex_along_value}
use Rattle.streams.proofs.Members.{contains_map}
use Rattle.flatten.proofs.chains.Chains.found_at.Goals as goal

pub returns-then-found-number : goal.returns-then-found-number
returns-then-found-number c =
    let items = c.args.self.now.found.items in
    let found = c.in_ok-found.found.now in
    let lookup = c.in_ok-found.ensures.lookup in
    let list = c.deref-2.result.now in
    let there : Contains list found = subst (Contains list) (sym lookup.1) (Contains-get_or list c.in_ok-place.place.now found (grind (arith, lookup.0))) in
    let here : Contains items found = subst (λ l. Contains l found) c.deref-2.ensures.value there in
    let same : found.vertex ≡ c.in_ok-number.number = grind (arith, c.if-found-number.true) in
    c.requires.found (vertex_along_value found) (id_value c.args.vertex.now) (contains_map vertex_along_value items found here) (ap (number_of c.args.self.now.dump.now.elements) (sym c.lent.ensures) ∙ sym c.in_ok-number.ensures ∙ ap (λ n. Some n) (sym same))
