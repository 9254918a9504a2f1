use Rattle.std.proofs.Common.{◌≡◌, ◌∙◌, ◌==◌, false, true, get_or, refl, sym, arith, eq-eqb}
use Rattle.std.proofs.lemmas.Bool.Decides.{nat_tests}
use Rattle.tags.specs.Steps.Cutting.{closing}
use Rattle.tags.proofs.AddressLemmas.{closing_from, closing_from-here, closing_from-later, closing_from-escaped, closing_from-end}
use Rattle.tags.proofs.address.closing.Goals as goal
use Rattle.tags.proofs.address.closing.Goals.{then-escaped, else-escaped+else-byte-delimiter}

pub returns-then-byte-delimiter-clause-value : goal.returns-then-byte-delimiter-clause-value
returns-then-byte-delimiter-clause-value c =
    let here : (get_or c.args.bytes.now c.loop-i.i 0 == c.args.delimiter) ≡ true = eq-eqb _ _ c.if-byte-delimiter.true in
    let before : closing_from c.args.delimiter false c.args.bytes.now c.loop-i.i ≡ closing c.args.delimiter false c.args.bytes.now = rw c.if-escaped.false at c.loop-i.invariant in
    sym (closing_from-here c.args.delimiter (get_or c.args.bytes.now c.loop-i.i 0) c.args.bytes.now c.loop-i.i (omega arith) refl here) ∙ before

pub loop-i-preserved : goal.loop-i-preserved
loop-i-preserved c =
    elim c.if-escaped.branch [
      | then-escaped w ↦
          let before : closing_from c.args.delimiter true c.args.bytes.now c.loop-i.i ≡ closing c.args.delimiter false c.args.bytes.now = rw w.if-escaped.true at c.loop-i.invariant in
          rw w.escaped-is (sym (closing_from-escaped c.args.delimiter (get_or c.args.bytes.now c.loop-i.i 0) c.args.bytes.now c.loop-i.i (omega arith) refl) ∙ before)
      | else-escaped+else-byte-delimiter w ↦
          let before : closing_from c.args.delimiter false c.args.bytes.now c.loop-i.i ≡ closing c.args.delimiter false c.args.bytes.now = rw w.if-escaped.false at c.loop-i.invariant in
          let other : (get_or c.args.bytes.now c.loop-i.i 0 == c.args.delimiter) ≡ false = grind (arith, nat_tests, w.if-byte-delimiter.false) in
          rw w.escaped-is (sym (closing_from-later c.args.delimiter (get_or c.args.bytes.now c.loop-i.i 0) c.args.bytes.now c.loop-i.i (omega arith) refl other) ∙ before)
    ]

pub returns-clause-value : goal.returns-clause-value
returns-clause-value c = sym (closing_from-end c.args.delimiter c.loop-i.escaped c.args.bytes.now c.loop-i.i (omega arith)) ∙ c.loop-i.invariant
