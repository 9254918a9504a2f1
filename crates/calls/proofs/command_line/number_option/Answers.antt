use Rattle.std.proofs.Common.{◌≡◌, ◌∙◌, ap, rules, Some}
use Rattle.clap.specs.Words.{Rule, new_rule, rule_of}
use Rattle.clap.specs.declared.builder.action.ArgAction.TheVariants.{Set}
use Rattle.clap.specs.declared.builder.value_parser.ValueParser.TheVariants.{Signed}
use Rattle.calls.proofs.command_line.number_option.Goals as goal

-- a text of help changes no rule, and a name for such texts is one name more
pub returns-clause-rule : goal.returns-clause-rule
returns-clause-rule c =
    let rule : rule_of c.value_parser.result ≡ record (new_rule c.args.id.now) { long = Some c.args.id.now; action = Some Set; parser = Some (Signed c.args.least c.args.most) } = search rules in
    ap rule_of c.help.ensures ∙ ap rule_of c.value_name.ensures ∙ ap (λ (r : Rule). record r { value_names = 1 }) rule
