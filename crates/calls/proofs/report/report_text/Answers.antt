use Rattle.std.proofs.Common.{◌≡◌, ◌∙◌, ◌++◌, sym, ap, string_bytes, codes}
use Rattle.std.specs.Fmt.{decimal}
use Rattle.std.proofs.lemmas.Result.{IfOk-weaker}
use Rattle.calls.specs.Report.{report_text}
use Rattle.calls.proofs.report.report_text.Goals as goal

pub returns-in-Elements : goal.returns-in-Elements
returns-in-Elements c =
    let n = c.in-Elements.elements in
    IfOk-weaker c.format.result (λ s. string_bytes s ≡ codes "ok " ++ (decimal n ++ codes " elements\n")) (λ s. string_bytes s ≡ report_text c.args.report) (λ s wrote. wrote ∙ ap report_text (sym c.in-Elements.is)) c.format.ensures.ok

pub returns-in-Tags : goal.returns-in-Tags
returns-in-Tags c =
    let n = c.in-Tags.tags in
    IfOk-weaker c.format-in-Tags.result (λ s. string_bytes s ≡ codes "ok " ++ (decimal n ++ codes " tags\n")) (λ s. string_bytes s ≡ report_text c.args.report) (λ s wrote. wrote ∙ ap report_text (sym c.in-Tags.is)) c.format-in-Tags.ensures.ok
