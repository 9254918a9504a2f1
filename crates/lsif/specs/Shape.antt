-- Steps that may fail by the shape of a line, and what calls answer of them.
use Rattle.std.specs.Prelude.{◌≡◌, true, Option, Some, None, Result, Ok, Err, ⊤}
use Rattle.lsif.specs.Code.{is_shape_code}
use Rattle.lsif.specs.declared.code.Code.{Code}
use Rattle.lsif.specs.declared.fault.ReadFault.{ReadFault}
use Rattle.lsif.specs.declared.fault.ReadFault.TheVariants as faults

-- ---- steps that may fail: the first fault is the result

infixl 10 ◌>>=◌
abbrev pub ◌>>=◌ : {A B : Type 0} → Result A Code → (A → Result B Code) → Result B Code
(Ok x) >>= f = f x
(Err e) >>= f = Err e

abbrev pub some_or : {A : Type 0} → Code → Option A → Result A Code
some_or code None = Err code
some_or code (Some x) = Ok x

-- ---- what a call answers

-- the fault that was answered is that of the reading, unless memory was refused
abbrev pub Fails : {Y : Type 0} → ReadFault → Result Y Code → Type 0
Fails faults.Memory reading = ⊤
Fails (faults.Shape c) reading = reading ≡ Err c

-- what was answered is what the reading gives, unless memory was refused
abbrev pub Gives : {X Y : Type 0} → (X → Y) → Result X ReadFault → Result Y Code → Type 0
Gives value (Ok x) reading = reading ≡ Ok (value x)
Gives value (Err e) reading = Fails e reading

-- a code that was answered is that of one line alone
abbrev pub IsShapeFault : ReadFault → Type 0
IsShapeFault faults.Memory = ⊤
IsShapeFault (faults.Shape c) = is_shape_code c ≡ true
