use Rattle.std.proofs.Common.{◌∙◌, ap, sym, subst}
use Rattle.machine.specs.Judging.{judged}
use Rattle.machine.specs.Uploads.{BodyValue, UploadValue, HasRead, action_of, command_of}
use Rattle.desk.proofs.index_desk.IndexDesk.finish.Goals as goal

pub returns-clause-served : goal.returns-clause-served
returns-clause-served g c = λ good m body stood stands.
    let same = ap (λ (u : UploadValue). u.body) c.upload.view_is in
    let there = subst (λ (b : BodyValue). HasRead b body) (sym same) stands in
    c.conclude.ensures.served good m (command_of c.args.upload body) stood (
      sym (c.as_str-project.ensures.value ∙ ap (λ (u : UploadValue). u.project) c.upload.view_is),
      sym (c.as_str-key.ensures.value ∙ ap (λ (u : UploadValue). u.key) c.upload.view_is),
      c.in_ok-said.ensures.said body there ∙ ap (λ (b : BodyValue). judged (action_of b.lines body)) same,
    )
