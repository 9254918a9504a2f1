-- One text for each key, by which keys are compared.
use Rattle.std.specs.Prelude.{ℕ, zero, suc, ◌+◌, List, ◌++◌, map, length, codes, Option, Some, None}
use Rattle.std.specs.Int.Digits.{digits_of}
use Rattle.lsif.specs.Element.{MonikerValue, PackageValue}
use Rattle.dump.specs.Monikers.{MonikerKey}

-- the key of a moniker that has this package, or has none
abbrev pub moniker_key : MonikerValue → Option PackageValue → MonikerKey
moniker_key m p = record { scheme = m.scheme; identifier = m.identifier; «package» = p }

-- a number of any size in decimal digits, of which the first isn't 0 but in "0"
abbrev pub decimal_of : ℕ → List ℕ
decimal_of zero = codes "0"
decimal_of (suc n) = map (λ digit. 48 + digit) (digits_of 10 (suc n))

-- the number of bytes, a colon, and the bytes
abbrev pub counted : List ℕ → List ℕ
counted bytes = decimal_of (length bytes) ++ (codes ":" ++ bytes)

-- "0" without a package, and else "1", its manager, its name and its version
abbrev pub package_text : Option PackageValue → List ℕ
package_text None = codes "0"
package_text (Some p) = codes "1" ++ (counted p.manager ++ (counted p.name ++ counted p.version))

-- the scheme, the identifier and the package
abbrev pub key_text : MonikerKey → List ℕ
key_text key = counted key.scheme ++ (counted key.identifier ++ package_text key.«package»)
