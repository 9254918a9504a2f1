-- Steps that may fail with a code, and what a function returned of them.
use Rattle.std.specs.Prelude.{◌≡◌, Option, Some, None, Result, Ok, Err}
use Rattle.tags.specs.declared.code.Code.{Code}
use Rattle.tags.specs.declared.code.SplitFault.{SplitFault}
use Rattle.tags.specs.declared.code.SplitFault.TheVariants as faults

infixl 10 ◌>>=◌
abbrev pub ◌>>=◌ : {A B : Type 0} → Result A Code → (A → Result B Code) → Result B Code
(Ok x) >>= f = f x
(Err e) >>= f = Err e

abbrev pub some_or : {A : Type 0} → Code → Option A → Result A Code
some_or code None = Err code
some_or code (Some x) = Ok x

-- That memory ran out says nothing; another refusal is that of the reading.
abbrev pub Refuses : {Y : Type 0} → SplitFault → Result Y Code → Type 0
Refuses faults.Memory reading = Unit {0}
Refuses (faults.Line code) reading = reading ≡ Err code

-- what a function returned, seen by view, is what the reading gives, unless memory ran out
abbrev pub Gives : {X Y : Type 0} → (X → Y) → Result X SplitFault → Result Y Code → Type 0
Gives view (Ok x) reading = reading ≡ Ok (view x)
Gives view (Err e) reading = Refuses e reading

-- the refusal of a step
abbrev pub fault_in : {A : Type 0} → Result A Code → Option Code
fault_in (Ok x) = None
fault_in (Err code) = Some code
