use Rattle.std.proofs.Common.{◌∙◌, [], ap}
use Rattle.tags.specs.Fault.{contents, tags_of}
use Rattle.tags.specs.States.{listed, summary_of}
use Rattle.tags.proofs.JudgingLemmas.{one_fault}
use Rattle.tags.proofs.StepLemmas.{stays, stops_at, passes_all}
use Rattle.tags.proofs.SummaryLemmas.{listed-all}
use Rattle.tags.proofs.laws.state_law.Goals as goal

pub returns-clause-one : goal.returns-clause-one
returns-clause-one c = one_fault

pub returns-clause-stopped : goal.returns-clause-stopped
returns-clause-stopped c = stops_at listed []

pub returns-clause-running : goal.returns-clause-running
returns-clause-running c = λ lines s h.
    let passes = passes_all listed [] lines s h in
    (passes.0, passes.1 ∙ ap (λ tags. summary_of tags (contents lines)) (listed-all (tags_of (contents lines))))

pub returns-clause-stays : goal.returns-clause-stays
returns-clause-stays c = stays listed []
