use Rattle.std.proofs.Common.{◌≡◌, ◌∙◌, ◌++◌, [], take, refl, sym, subst, append_assoc, append-nil}
use Rattle.machine.specs.Steps.Uploads.{StandsBy}
use Rattle.machine.proofs.Standing.{DumpLaws, TagLaws, moved_on, no_rest, stands_by, stands_for}
use Rattle.machine.proofs.upload.BodyReader.piece.Goals as goal

pub loop-rest-init : goal.loop-rest-init
loop-rest-init c = record {
  taken = ([], refl, λ body stands. subst (StandsBy c.args.self.now) (sym (append-nil body)) stands);
  same = refl;
  for_good = λ is. is;
}

pub loop-rest-preserved : goal.loop-rest-preserved
loop-rest-preserved c =
    let i = c.loop-rest.invariant in
    let n = c.take-taken.result in
    let rest = c.loop-rest.rest.now in
    let front = i.taken.0 in
    record {
      taken = (
        front ++ take n rest,
        moved_on c.args.bytes.now front rest n i.taken.1,
        λ body stands.
            subst (StandsBy c.take-taken.new.self) (append_assoc body front (take n rest)) (c.take-taken.ensures.stands (body ++ front) (i.taken.2 body stands)),
      );
      same = c.take-taken.ensures.same ∙ i.same;
      for_good = λ is. c.take-taken.ensures.for_good (i.for_good is);
    }

pub returns-clause-stands : goal.returns-clause-stands
returns-clause-stands c = λ body stands.
    let dumps : DumpLaws = record { line = c.fault_law.ensures.line; elements = c.fault_law.ensures.elements; sound = c.fault_law.ensures.sound } in
    let tags : TagLaws = record { one = c.state_law.ensures.one; stopped = c.state_law.ensures.stopped; running = c.state_law.ensures.running; holds = c.reading_law.ensures.holds; only = c.reading_law.ensures.only } in
    let i = c.loop-rest.invariant in
    let whole : c.args.bytes.now ≡ i.taken.0 = no_rest c.args.bytes.now i.taken.0 c.loop-rest.rest.now c.loop-rest-test.ensures i.taken.1 in
    let by = i.taken.2 body (stands_by dumps tags c.args.self.now body stands) in
    stands_for dumps tags c.loop-rest.self (body ++ c.args.bytes.now) (subst (λ b. StandsBy c.loop-rest.self (body ++ b)) (sym whole) by)
