use Rattle.std.proofs.Common.{Global, ◌≡◌, sym, subst, string_bytes, rules}
use Rattle.std.specs.Prelude.{String, option_map}
use Rattle.lsif.specs.declared.request_kind.RequestKind.TheVariants as requests
use Rattle.machine.specs.Selections.{range_found}
use Rattle.machine.specs.Answers.{AnswersAt, AnswersHover, no_dump, no_such_document}
use Rattle.machine.specs.Reply.{hover_found}
use Rattle.machine.specs.Requests.{at_value}
use Rattle.desk.specs.Steps.Rows.{Picks}
use Rattle.desk.proofs.RowAnswers.{no_range_hovers, renamed, row_hovers}
use Rattle.desk.proofs.rows.hovers.hover.Goals as goal

pub returns-in-NoDump-clause-found : goal.returns-in-NoDump-clause-found
returns-in-NoDump-clause-found g c = λ s m stood.
    let p = subst (Picks m requests.Hover c.as_str-project.result.now c.as_str-uri.result.now c.args.at) c.in-NoDump.is (c.in_ok-pick.ensures.found s m stood) in
    renamed (λ q u. AnswersAt m (at_value q u c.args.at) (AnswersHover m (at_value q u c.args.at)) c.refused.result) _ _ _ _ c.as_str-project.ensures.value c.as_str-uri.ensures.value
    (subst (AnswersAt m _ _) (sym c.refused.ensures) (no_dump p))

pub returns-in-NoDocument-clause-found : goal.returns-in-NoDocument-clause-found
returns-in-NoDocument-clause-found g c = λ s m stood.
    let p = subst (Picks m requests.Hover c.as_str-project.result.now c.as_str-uri.result.now c.args.at) c.in-NoDocument.is (c.in_ok-pick.ensures.found s m stood) in
    renamed (λ q u. AnswersAt m (at_value q u c.args.at) (AnswersHover m (at_value q u c.args.at)) c.refused-in-NoDocument.result) _ _ _ _ c.as_str-project.ensures.value c.as_str-uri.ensures.value
    (subst (AnswersAt m _ _) (sym c.refused-in-NoDocument.ensures) (no_such_document p.0 p.1 p.2))

pub returns-in_ok-hover_found-in-NoRange-clause-found : goal.returns-in_ok-hover_found-in-NoRange-clause-found
returns-in_ok-hover_found-in-NoRange-clause-found g c = λ s m stood.
    let own = c.as_str-project.result.now in
    let uri = c.as_str-uri.result.now in
    let at = c.args.at in
    let p = subst (Picks m requests.Hover own uri at) c.in-NoRange.is (c.in_ok-pick.ensures.found s m stood) in
    let answer = no_range_hovers m (c.in_ok-pick.ensures.faultless s m stood) own uri at p in
    renamed (λ q u. AnswersAt m (at_value q u at) (AnswersHover m (at_value q u at)) c.in_ok-hover_found-in-NoRange.field-0) _ _ _ _ c.as_str-project.ensures.value c.as_str-uri.ensures.value
    (subst (AnswersAt m _ _) (sym c.in_ok-hover_found-in-NoRange.ensures) answer)

pub returns-in_ok-hover_found-in-Range-clause-found : goal.returns-in_ok-hover_found-in-Range-clause-found
returns-in_ok-hover_found-in-Range-clause-found g c = λ s m stood.
    let own = c.as_str-project.result.now in
    let uri = c.as_str-uri.result.now in
    let at = c.args.at in
    let row = range_found c.in-Range.range in
    let s1 = c.contents_at.ensures.reads.reliable s in
    let p = subst (Picks m requests.Hover own uri at) c.in-Range.is (c.in_ok-pick.ensures.found s1 m stood) in
    let mid = (c.in_ok-pick.ensures.reads.only s1).state m stood in
    let is = c.in_ok-found-in-Range.ensures.found s m mid in
    let answer = row_hovers m (c.in_ok-pick.ensures.faultless s1 m stood) own uri at row p _ is in
    let reply : c.in_ok-hover_found-in-Range.field-0 ≡ hover_found (option_map (λ (x : String Global). string_bytes x) c.in_ok-found-in-Range.found) = search rules in
    renamed (λ q u. AnswersAt m (at_value q u at) (AnswersHover m (at_value q u at)) c.in_ok-hover_found-in-Range.field-0) _ _ _ _ c.as_str-project.ensures.value c.as_str-uri.ensures.value
    (subst (AnswersAt m _ _) (sym reply) answer)
