use Rattle.std.proofs.Common.{◌≡◌, ◌∙◌, ◌++◌, ◌∷◌, [], map, sym, ap, subst, rules}
use Rattle.std.specs.Prelude.{Contains, Some}
use Rattle.std.specs.List.{All}
use Rattle.std.proofs.lemmas.List.{map-append}
use Rattle.std.proofs.lemmas.List.Elements.{All-push}
use Rattle.lsif.specs.Element.{element_value, id_value, range, vertex}
use Rattle.dump.specs.Graph.{vertex_at}
use Rattle.flatten.specs.Rows.{range_value}
use Rattle.flatten.specs.Steps.Ranges.{IsFoundRange}
use Rattle.flatten.proofs.ranges.add_found.Goals as goal

pub found_range-requires-clause-range : goal.found_range-requires-clause-range
found_range-requires-clause-range c =
    let d = c.args.chains.now.dump.now.elements in
    let i = id_value c.in-Vertex-default-Range.id in
    let span = c.in-Vertex-default-Range.span in
    let is : element_value c.args.element.now ≡ vertex i (range span) = search rules in
    let here : vertex_at d i ≡ Some (range span) = (c.vertex_law.ensures d c.requires.faultless i (range span)).1 (subst (Contains d) is c.requires.element) in
    rw c.in-Vertex-default-Range.field-1-is here

pub returns-clause-found : goal.returns-clause-found
returns-clause-found c =
    let d = c.args.chains.now.dump.now.elements in
    let old = c.args.found.now.items in
    let row = c.in_ok-found_range.field-0 in
    let pushed : map range_value c.push.new.self.items ≡ map range_value old ++ range_value row ∷ [] = ap (map range_value) c.in_ok-push.ensures.items ∙ map-append range_value old (row ∷ []) in
    subst (All (IsFoundRange d)) (sym pushed) (All-push (IsFoundRange d) (map range_value old) (range_value row) c.requires.found c.in_ok-found_range.ensures.found.1)
