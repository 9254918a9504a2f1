use Rattle.std.proofs.Common.{Bor, ◌∙◌, map, sym, ap, subst}
use Rattle.std.specs.Prelude.{Ok}
use Rattle.dump.specs.Fault.{IsFaultless}
use Rattle.dump.specs.declared.checker.CheckedDump.{CheckedDump}
use Rattle.flatten.specs.Steps.Marks.{AreBorne}
use Rattle.flatten.proofs.flattening.moniker_rows.Goals as goal

pub mark_rows-requires-clause-borne : goal.mark_rows-requires-clause-borne
mark_rows-requires-clause-borne c =
    let dumps = ap (λ v. v.elements) c.in_ok-chains.ensures.dump in
    let pairs = ap (λ v. v.items) c.in_ok-chains.ensures.borne in
    subst (λ d. AreBorne d c.in_ok-chains.chains.borne.items) (sym dumps) (subst (AreBorne c.args.kinds.now.dump.now.elements) (sym pairs) c.in_ok-borne.ensures.borne)

pub mark_rows-requires-clause-faultless : goal.mark_rows-requires-clause-faultless
mark_rows-requires-clause-faultless c = subst (λ d. IsFaultless (map Ok d)) (sym (ap (λ v. v.elements) c.in_ok-chains.ensures.dump)) c.requires.faultless

pub bearer_rows-requires-clause-borne : goal.bearer_rows-requires-clause-borne
bearer_rows-requires-clause-borne c =
    let dumps = ap (λ (b : Bor CheckedDump). b.now.elements) c.in_ok-marks.ensures.dump ∙ ap (λ v. v.elements) c.in_ok-chains.ensures.dump in
    let pairs = ap (λ v. v.items) (c.in_ok-marks.ensures.borne ∙ c.in_ok-chains.ensures.borne) in
    subst (λ d. AreBorne d c.mark_rows.new.chains.borne.items) (sym dumps) (subst (AreBorne c.args.kinds.now.dump.now.elements) (sym pairs) c.in_ok-borne.ensures.borne)

pub bearer_rows-requires-clause-faultless : goal.bearer_rows-requires-clause-faultless
bearer_rows-requires-clause-faultless c =
    let dumps = ap (λ (b : Bor CheckedDump). b.now.elements) c.in_ok-marks.ensures.dump ∙ ap (λ v. v.elements) c.in_ok-chains.ensures.dump in
    subst (λ d. IsFaultless (map Ok d)) (sym dumps) c.requires.faultless
