use Rattle.std.proofs.Common.{◌≡◌, ◌∙◌, Option, Some, map, sym, ap, subst}
use Rattle.std.specs.Rc.{rc_str_bytes}
use Rattle.std.specs.List.{All}
use Rattle.std.proofs.lemmas.List.{map-append}
use Rattle.std.proofs.lemmas.List.Elements.{All-push}
use Rattle.lsif.specs.Element.{IdValue, id_value}
use Rattle.flatten.specs.Flat.{AreResults, IsBearerRow}
use Rattle.flatten.specs.Rows.{bearer_value}
use Rattle.flatten.specs.Steps.Chains.{along_value}
use Rattle.flatten.proofs.ChainWalks.{results_along}
use Rattle.flatten.proofs.NumberPairs.{vertex_numbers}
use Rattle.flatten.proofs.marks.add_bearer.Goals as goal

pub returns-clause-rows : goal.returns-clause-rows
returns-clause-rows c =
    let d = c.args.chains.now.dump.now.elements in
    let b = c.requires.borne in
    let id = id_value c.in-Some.id.now in
    let along = along_value c.in_ok-along.along in
    let free = c.requires.faultless in
    let old = c.args.rows.now.items in
    let e : ◌≡◌ {A = Option IdValue} (Some id) (Some b.vertex) = c.in-Some.ensures b.vertex b.at_line in
    let same : id ≡ b.vertex = cc in
    let along_its = results_along d (c.ends_law.ensures d free) (vertex_numbers d (c.line_law.ensures.there d free)) c.args.chains.now.borne.items id along c.in_ok-along.ensures.along in
    let results = subst (λ x. AreResults d x along.results) same along_its in
    let here : IsBearerRow d (record { line = c.args.mark.range; key = rc_str_bytes c.args.mark.key; kind = c.args.mark.kind; results = along.results }) = record { vertex = b.vertex; mark = b.mark; at_line = b.at_line; bears = b.bears; is_kind = b.is_kind; is_key = b.is_key; are_results = results } in
    subst (All (IsBearerRow d)) (sym (ap (map bearer_value) c.in_ok-push.ensures.items ∙ map-append bearer_value old _)) (All-push (IsBearerRow d) (map bearer_value old) _ c.requires.rows here)
