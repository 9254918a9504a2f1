use Rattle.std.proofs.Common.{◌≡◌, ◌∙◌, sym, subst, ap}
use Rattle.machine.specs.Judging.{judged}
use Rattle.machine.specs.Uploads.{BodyValue, action_of}
use Rattle.machine.specs.Steps.Uploads.{StandsBy, said, taken}
use Rattle.machine.proofs.Standing.{DumpLaws, TagLaws, stands_by}
use Rattle.machine.proofs.Saying.{not_refused, out_of_memory, rises, says_is, same_answer}
use Rattle.machine.proofs.upload.BodyReader.finish.Goals as goal

pub finish-requires : goal.finish-requires
finish-requires c =
    let old = c.self.inside in
    let body = c.self.invariant.2 in
    let says = c.end_line.ensures.said body c.self.invariant.3 in
    rises c.text_law.ensures.tags c.text_law.ensures.rising (taken c.end_line.new.lines) (taken old.lines) body
    (says_is c.end_line.result (taken c.end_line.new.lines) (judged (action_of (taken old.lines) body)) c.in-Running.is says)

pub returns-in-Running : goal.returns-in-Running
returns-in-Running c =
    let old = c.self.inside in
    let dumps : DumpLaws = record { line = c.fault_law.ensures.line; elements = c.fault_law.ensures.elements; sound = c.fault_law.ensures.sound } in
    let tags : TagLaws = record { one = c.state_law.ensures.one; stopped = c.state_law.ensures.stopped; running = c.state_law.ensures.running; holds = c.reading_law.ensures.holds; only = c.reading_law.ensures.only } in
    let lines : taken old.lines ≡ c.args.self.lines = ap (λ (b : BodyValue). b.lines) c.self.view_is in
    record {
      said = λ body stands.
          let by = subst (λ b. StandsBy b body) (sym c.self.view_is) (stands_by dumps tags c.args.self body stands) in
          let is = says_is c.end_line.result (taken c.end_line.new.lines) (judged (action_of (taken old.lines) body)) c.in-Running.is (c.end_line.ensures.said body by) in
          same_answer c.finish.result (said (taken c.end_line.new.lines)) (judged (action_of c.args.self.lines body)) c.finish.ensures (is ∙ ap (λ k. judged (action_of k body)) lines);
      memory = λ is.
          let refused = out_of_memory old.state (ap (λ (b : BodyValue). b.is_out_of_memory) c.self.view_is ∙ is) in
          absurd (not_refused c.end_line.result c.in-Running.is (c.end_line.ensures.refused refused));
    }
