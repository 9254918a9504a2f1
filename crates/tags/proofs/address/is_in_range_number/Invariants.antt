use Rattle.std.proofs.Common.{◌≡◌, ◌≤◌, drop}
use Rattle.tags.specs.Steps.Cutting.{is_in_range_number, greatest_number}
use Rattle.tags.proofs.AddressLemmas.{in_range_from}
use Rattle.tags.proofs.address.is_in_range_number.Given as goal

abbrev pub invariant-loop-digit : goal.invariant-loop-digit
invariant-loop-digit l = record {
  small : l.value ≤ greatest_number;
  rest : in_range_from l.value (drop l.digit-index l.digits) ≡ is_in_range_number l.digits;
}
