use Rattle.std.proofs.Common.{◌≡◌, ◌∙◌, Some, None, refl, rules, subst, ap, false}
use Rattle.streams.specs.Pieces.{begun, rest_in}
use Rattle.machine.specs.Judging.{judged}
use Rattle.machine.specs.Uploads.{action_of}
use Rattle.machine.specs.Steps.Uploads.{TookBody, next, said, taken}
use Rattle.machine.proofs.TakenLines.{running_state, running_took}
use Rattle.machine.proofs.Saying.{faulty_says, no_rest, said_last, said_whole, says_judged, some_rest}
use Rattle.machine.proofs.upload.end_line.Goals as goal

pub returns-in-Some-clause-said : goal.returns-in-Some-clause-said
returns-in-Some-clause-said c = λ body stands.
    let known = taken c.args.lines.now in
    let cutter = c.args.cutter.now in
    let some : Some c.in-Some.line.now ≡ rest_in cutter = search rules in
    let rest = some_rest (begun cutter) c.in-Some.line.now some in
    let took = running_took known cutter c.args.state body c.in-Running.is stands in
    let runs = (running_state known cutter c.args.state c.in-Running.is c.requires.state).0 in
    let is : said (next known c.in-Some.line.now false) ≡ judged (action_of known body) =
    ap (λ l. said (next known l false)) rest.3 ∙ said_last c.lines_law.ensures.only c.lines_law-2.ensures known (begun cutter) body rest.0 rest.1 rest.2 runs took in
    says_judged c.feed.result (next known c.in-Some.line.now false) _ _ (c.feed.ensures.judged c.in-Some.line.now refl) is

pub returns-in-None-clause-said : goal.returns-in-None-clause-said
returns-in-None-clause-said c = λ body stands.
    let known = taken c.args.lines.now in
    let cutter = c.args.cutter.now in
    let none : None ≡ rest_in cutter = search rules in
    let took = running_took known cutter c.args.state body c.in-Running.is stands in
    let runs = (running_state known cutter c.args.state c.in-Running.is c.requires.state).0 in
    said_whole c.lines_law.ensures.only c.lines_law-2.ensures known body runs (subst (λ h. TookBody known h body) (no_rest (begun cutter) none) took)

pub returns-in-Faulty : goal.returns-in-Faulty
returns-in-Faulty c = record {
  said = λ body stands.
      faulty_says c.lines_law.ensures.only c.lines_law-2.ensures (taken c.args.lines.now) c.args.cutter.now c.args.state body c.in-Faulty.is c.requires.state stands;
  refused = λ is. is;
}
