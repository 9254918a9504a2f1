use Rattle.std.proofs.Common.{◌∙◌, to_z-of_z, inl, refl, sym}
use Rattle.flatten.specs.Rows.{results_value}
use Rattle.tables.specs.Kinds.{more_kinds}
use Rattle.tables.proofs.LineResults.{in_more, of_kind}
use Rattle.tables.proofs.covering.result_of.Goals as goal

pub returns-in_ok-more_of-in_default-clause-result : goal.returns-in_ok-more_of-in_default-clause-result
returns-in_ok-more_of-in_default-clause-result g c clean has m s project dump slot is r row t =
    let more = (rw (to_z-of_z c.ranges.slot) at c.in_ok-more_of-in_default.ensures.more) clean has m s project dump slot is r.results (inl (r, row, sym t.line, refl)) in
    let kind = in_more c.args.request c.in_default.not-Definition c.in_default.not-References c.in_default.not-Hover in
    c.of.ensures ∙ of_kind more_kinds (results_value c.in_ok-more_of-in_default.field-0) r.results more c.args.request kind
