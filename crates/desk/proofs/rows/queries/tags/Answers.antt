use Rattle.std.proofs.Common.{◌≡◌, ◌∙◌, map, ap, subst, rules}
use Rattle.std.specs.Prelude.{option_map}
use Rattle.machine.specs.Found.{tag_found}
use Rattle.machine.specs.Reply.{tags_found}
use Rattle.desk.specs.Indexes.{FindsTags}
use Rattle.desk.proofs.TagAnswers.{tags_answer}
use Rattle.desk.proofs.rows.queries.tags.Goals as goal

pub returns-clause-found : goal.returns-clause-found
returns-clause-found g c = λ sound m stood.
    let found = map tag_found c.in_ok-found.found.items in
    let named : option_map (λ p. p.now) c.map-name.result ≡ c.args.project.now = search rules in
    tags_answer m c.args.wanted c.args.project.now found _ (subst (λ o. FindsTags m o c.args.wanted found) named (c.in_ok-found.ensures.found sound m stood))
    (c.in_ok-tags_found.ensures ∙ ap tags_found (ap (map tag_found) c.deref.ensures.value))
