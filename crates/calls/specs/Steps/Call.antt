-- Numbers of a call on their way in, and its faults on their way out.
use Rattle.std.specs.Prelude.{◌≡◌, ◌≢◌, ℕ, ◌&&◌, nat_le, Option, Some, None, if◌then◌else◌, ⊤}
use Rattle.clap.specs.Words.{kind_of}
use Rattle.clap.specs.declared.error.Error.{Error}
use Rattle.clap.specs.declared.error.kind.ErrorKind.TheVariants.{OutOfMemory, ValueValidation}
use Rattle.calls.specs.declared.call.CallFault.{CallFault}
use Rattle.calls.specs.declared.call.CallFault.TheVariants.{Memory, Clap}

-- what clap's error becomes
abbrev pub ShowsError : Error → CallFault → Type 0
ShowsError error Memory = kind_of error ≡ OutOfMemory
ShowsError error (Clap shown) = (shown ≡ error) × (kind_of error ≢ OutOfMemory)

-- no memory was left, or the fault says that a value is missing
abbrev pub IsMissing : CallFault → Type 0
IsMissing Memory = ⊤
IsMissing (Clap error) = kind_of error ≡ ValueValidation

-- the number, where it's from 1 to the most
abbrev pub up_to : ℕ → Option ℕ → Option ℕ
up_to most None = None
up_to most (Some n) = if nat_le 1 n && nat_le n most then Some n else None
