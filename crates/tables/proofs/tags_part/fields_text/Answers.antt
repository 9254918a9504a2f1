use Rattle.std.proofs.Common.{◌∙◌, ap, map}
use Rattle.std.proofs.lemmas.Result.{IfOk-weaker}
use Rattle.serde_json.specs.Written.{compact_text, has_float}
use Rattle.tags.specs.Views.{field_value}
use Rattle.tables.proofs.Texts.{fields_without}
use Rattle.tables.proofs.tags_part.fields_text.Goals as goal

pub returns : goal.returns
returns c =
    let is = c.in_ok-fields_value.ensures in
    IfOk-weaker c.to_string.result _ _ (λ text same. same (ap has_float is ∙ fields_without (map field_value c.args.fields.now)) ∙ ap compact_text is) c.to_string.ensures.text
