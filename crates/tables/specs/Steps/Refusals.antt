-- Which fault the refusal of a private function is, and that it's none of a row.
use Rattle.std.specs.Prelude.{◌≢◌, Bool, Result, IfErr}
use Rattle.tables.specs.declared.fault.Refusal.{Refusal}
use Rattle.tables.specs.declared.fault.Refusal.TheVariants.{Store, Row, Memory}
use Rattle.tables.specs.declared.fault.TablesFault.{TablesFault}
use Rattle.tables.specs.Fault.{fault_of}

-- the first argument as for `fault_of`
abbrev pub told_fault : Bool → Refusal → TablesFault
told_fault is_in_memory (Store error) = fault_of is_in_memory error
told_fault _ Row = TablesFault.Refused
told_fault _ Memory = TablesFault.Memory

-- the call isn't refused as a row that isn't the product's
abbrev pub RefusesNoRow : {A : Type 0} → Result A Refusal → Type 0
RefusesNoRow result = IfErr result (λ r. r ≢ Row)
