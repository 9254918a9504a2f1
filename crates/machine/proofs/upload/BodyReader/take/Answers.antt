use Rattle.std.proofs.Common.{◌≡◌, ◌∙◌, ◌++◌, List, ℕ, arith, refl, sym, subst, take, length}
use Rattle.std.proofs.Math.Seq.{take-length}
use Rattle.machine.specs.Uploads.{BodyValue, longest_of}
use Rattle.machine.specs.Steps.Uploads.{StandsBy, taken}
use Rattle.machine.proofs.TakenLines.{faulty_stands, running_took, same_longest}
use Rattle.machine.proofs.upload.BodyReader.take.Goals as goal

pub invariant_of-self : goal.invariant_of-self
invariant_of-self c =
    let old = c.self.inside in
    let i = c.self.invariant in
    let new = c.take_line-taken in
    let longest : new.new.cutter.longest ≡ longest_of (taken new.new.lines) =
    new.ensures.longest ∙ i.0 ∙ sym (same_longest (taken new.new.lines) (taken old.lines) new.ensures.same) in
    let took = running_took (taken old.lines) old.cutter old.state i.2 c.in-Running.is i.3 in
    (longest, new.ensures.state, i.2 ++ take new.result.count c.args.piece.now, new.ensures.stands i.2 took)

pub returns-in-Running-clause-stands : goal.returns-in-Running-clause-stands
returns-in-Running-clause-stands c = λ body stands.
    let old = c.self.inside in
    let P : BodyValue → Type 0 = λ b. StandsBy b body in
    c.take_line-taken.ensures.stands body (running_took (taken old.lines) old.cutter old.state body c.in-Running.is (subst P (sym c.self.view_is) stands))

pub returns-in-Faulty : goal.returns-in-Faulty
returns-in-Faulty c =
    let old = c.self.inside in
    let stays : (body : List ℕ) → StandsBy c.args.self.now body → StandsBy c.args.self.now (body ++ take (length c.args.piece.now) c.args.piece.now) =
    λ body stands.
    let P : BodyValue → Type 0 = λ b. StandsBy b body in
    let more : StandsBy c.args.self.now (body ++ c.args.piece.now) =
    subst (λ b. StandsBy b (body ++ c.args.piece.now)) c.self.view_is
    (faulty_stands (taken old.lines) old.cutter old.state body c.args.piece.now c.in-Faulty.is c.self.invariant.1 (subst P (sym c.self.view_is) stands)) in
    subst (λ p. StandsBy c.args.self.now (body ++ p)) (sym (take-length c.args.piece.now)) more in
    record { some = λ more. omega (arith, more); within = omega arith; stands = stays; same = refl; for_good = λ is. is }
