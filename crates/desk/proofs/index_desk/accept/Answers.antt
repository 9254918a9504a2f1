use Rattle.std.proofs.Common.{◌∙◌, ap, rules}
use Rattle.lsif.specs.Element.{element_value}
use Rattle.machine.specs.State.{changed, set_dump, set_tags}
use Rattle.tags.specs.Views.{tag_value}
use Rattle.machine.specs.Reply.{dump_accepted, tags_accepted}
use Rattle.desk.proofs.NewReplies.{new_dump, new_tags, same_count}
use Rattle.desk.proofs.Serving.{refused_unasked}
use Rattle.desk.proofs.index_desk.accept.Goals as goal

pub returns-in_err-reply-in-SetDump-clause-accepted : goal.returns-in_err-reply-in-SetDump-clause-accepted
returns-in_err-reply-in-SetDump-clause-accepted g c good m stood free =
    let next = changed m c.args.project.now c.args.key.now (set_dump c.in-SetDump.dump) in
    let held = refused_unasked g.I.Index.stands g.I.Index.may_leave c.args.index.now m next (λ states. g.met.I.Index.weaker c.args.index.now states next) stood in
    search rules

pub returns-in_err-replace_dump-in-SetDump-clause-accepted : goal.returns-in_err-replace_dump-in-SetDump-clause-accepted
returns-in_err-replace_dump-in-SetDump-clause-accepted g c good m stood free =
    let new = new_dump element_value m c.args.project.now c.args.key.now c.body.result.now c.in-SetDump.dump c.elements.result.now _ free c.body.ensures c.in_ok-reply-in-SetDump.ensures c.elements.ensures.value in
    let held = (c.in_err-replace_dump-in-SetDump.ensures.changes good m stood new).1 in
    search rules

pub returns-in_ok-replace_dump-in-SetDump-clause-accepted : goal.returns-in_ok-replace_dump-in-SetDump-clause-accepted
returns-in_ok-replace_dump-in-SetDump-clause-accepted g c good m stood free =
    let new = new_dump element_value m c.args.project.now c.args.key.now c.body.result.now c.in-SetDump.dump c.elements.result.now _ free c.body.ensures c.in_ok-reply-in-SetDump.ensures c.elements.ensures.value in
    let held = (c.in_ok-replace_dump-in-SetDump.ensures.changes good m stood new).0 in
    let said = c.in_ok-reply-in-SetDump.ensures ∙ ap dump_accepted (same_count element_value c.elements.result.now _ c.elements.ensures.value) in
    search rules

pub returns-in_err-reply-in-SetTags-clause-accepted : goal.returns-in_err-reply-in-SetTags-clause-accepted
returns-in_err-reply-in-SetTags-clause-accepted g c good m stood free =
    let next = changed m c.args.project.now c.args.key.now (set_tags c.in-SetTags.part) in
    let held = refused_unasked g.I.Index.stands g.I.Index.may_leave c.args.index.now m next (λ states. g.met.I.Index.weaker c.args.index.now states next) stood in
    search rules

pub returns-in_err-replace_tags-in-SetTags-clause-accepted : goal.returns-in_err-replace_tags-in-SetTags-clause-accepted
returns-in_err-replace_tags-in-SetTags-clause-accepted g c good m stood free =
    let new = new_tags tag_value m c.args.project.now c.args.key.now c.body-in-SetTags.result.now c.in-SetTags.part c.tags.result.now _ free c.body-in-SetTags.ensures c.in_ok-reply-in-SetTags.ensures c.tags.ensures.value in
    let held = (c.in_err-replace_tags-in-SetTags.ensures.changes good m stood new).1 in
    search rules

pub returns-in_ok-replace_tags-in-SetTags-clause-accepted : goal.returns-in_ok-replace_tags-in-SetTags-clause-accepted
returns-in_ok-replace_tags-in-SetTags-clause-accepted g c good m stood free =
    let new = new_tags tag_value m c.args.project.now c.args.key.now c.body-in-SetTags.result.now c.in-SetTags.part c.tags.result.now _ free c.body-in-SetTags.ensures c.in_ok-reply-in-SetTags.ensures c.tags.ensures.value in
    let held = (c.in_ok-replace_tags-in-SetTags.ensures.changes good m stood new).0 in
    let said = c.in_ok-reply-in-SetTags.ensures ∙ ap tags_accepted (same_count tag_value c.tags.result.now _ c.tags.ensures.value) in
    search rules
