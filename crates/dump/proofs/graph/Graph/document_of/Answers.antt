use Rattle.std.proofs.Common.{◌≡◌, ◌∙◌, sym, ap, subst, List, map, find, Some}
use Rattle.std.specs.Prelude.{option_map}
use Rattle.lsif.specs.Element.{ElementValue, element_id, element_value}
use Rattle.dump.specs.Conditions.{is_document_of}
use Rattle.dump.proofs.graph.Graph.document_of.Goals as goal

pub returns-in-Some : goal.returns-in-Some
returns-in-Some c =
    let uri = c.args.uri.now in
    let same : map element_value c.deref.result.now ≡ c.args.self.now = ap (map element_value) c.deref.ensures.value ∙ c.self.view_is in
    let found = subst (λ (d : List ElementValue). option_map (λ e. element_value e.now) c.document_of.result ≡ find (is_document_of uri) d) same c.document_of.ensures in
    ap Some c.id.ensures ∙ ap (option_map element_id) (sym (ap (option_map (λ e. element_value e.now)) c.in-Some.is) ∙ found)

pub returns-in-None : goal.returns-in-None
returns-in-None c =
    let uri = c.args.uri.now in
    let same : map element_value c.deref.result.now ≡ c.args.self.now = ap (map element_value) c.deref.ensures.value ∙ c.self.view_is in
    let found = subst (λ (d : List ElementValue). option_map (λ e. element_value e.now) c.document_of.result ≡ find (is_document_of uri) d) same c.document_of.ensures in
    ap (option_map element_id) (sym (ap (option_map (λ e. element_value e.now)) c.in-None.is) ∙ found)
