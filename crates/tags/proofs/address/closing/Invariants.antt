use Rattle.std.proofs.Common.{◌≡◌, false}
use Rattle.tags.specs.Steps.Cutting.{closing}
use Rattle.tags.proofs.AddressLemmas.{closing_from}
use Rattle.tags.proofs.address.closing.Given as goal

abbrev pub invariant-loop-i : goal.invariant-loop-i
invariant-loop-i l = closing_from l.delimiter l.escaped l.bytes l.i ≡ closing l.delimiter false l.bytes
