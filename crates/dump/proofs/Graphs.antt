-- Steps of the loops over ids, spans and elements.
use Rattle.std.proofs.Common.{◌≡◌, ℕ, ◌+◌, ◌<◌, ◌≤◌, List, map, length, drop, get_or, Option, None, Some}
use Rattle.lsif.specs.declared.element.Element.{Element}
use Rattle.lsif.specs.declared.code.Code.{Code}
use Rattle.lsif.specs.Element.{ElementValue, element_value}
use Rattle.dump.specs.declared.fault.LineFault.{LineFault}
use Rattle.dump.specs.Conditions.{end_code}
use Rattle.dump.specs.Progress.{end_fault_from}
use Rattle.streams.proofs.Lists.{drop_next, drop_end}

abbrev pub fault_from : List ElementValue → List Element → ℕ → Option LineFault
fault_from d xs k = end_fault_from d k (map element_value (drop k xs))

pub fault-hit : (d : List ElementValue) (xs : List Element) (k : ℕ) (x : Element) (c : Code) (whole : Option LineFault) → k < length xs → x ≡ get_or xs k x → end_code d (element_value x) ≡ Some c → fault_from d xs k ≡ whole → Some (record { line = k + 1; code = c }) ≡ whole
unfolding end_fault_from
fault-hit d xs k x c whole lt e h inv = rw (drop_next xs k x lt e, h) at inv

pub fault-miss : (d : List ElementValue) (xs : List Element) (k : ℕ) (x : Element) (whole : Option LineFault) → k < length xs → x ≡ get_or xs k x → end_code d (element_value x) ≡ None → fault_from d xs k ≡ whole → fault_from d xs (k + 1) ≡ whole
unfolding end_fault_from
fault-miss d xs k x whole lt e h inv = rw (drop_next xs k x lt e, h) at inv

pub fault-end : (d : List ElementValue) (xs : List Element) (k : ℕ) (whole : Option LineFault) → length xs ≤ k → fault_from d xs k ≡ whole → None ≡ whole
unfolding end_fault_from
fault-end d xs k whole le inv = rw (drop_end xs k le) at inv
