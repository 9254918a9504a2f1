use Rattle.std.proofs.Common.{◌≡◌, ◌∙◌, ap, rules, true, Some}
use Rattle.clap.specs.Words.{Rule, new_rule, rule_of}
use Rattle.clap.specs.declared.builder.action.ArgAction.TheVariants.{Set}
use Rattle.calls.proofs.command_line.word.Goals as goal

-- a text of help changes no rule, and a name for such texts is one name more
pub returns-clause-rule : goal.returns-clause-rule
returns-clause-rule c =
    let rule : rule_of c.action.result ≡ record (new_rule c.args.id.now) { required = true; action = Some Set } = search rules in
    ap rule_of c.help.ensures ∙ ap rule_of c.value_name.ensures ∙ ap (λ (r : Rule). record r { value_names = 1 }) rule
