-- Names of symbols across projects, and the packages that they're of (LSIF 0.6.0, "moniker",
-- "packageInformation").
use Rattle.std.specs.Prelude.{ℕ, ◌==◌, Bool, List, [], codes, bytes_eq, Option, Some, None, option_map, option_and_then, if◌then◌else◌}
use Rattle.std.specs.List.{list_any}
use Rattle.serde_json.specs.Data.{Data}
use Rattle.serde_json.specs.Find.{get, as_str}
use Rattle.lsif.specs.declared.element.MonikerKind.{MonikerKind}
use Rattle.lsif.specs.declared.element.MonikerKind.TheVariants.{Import, Export, Local}
use Rattle.lsif.specs.Element.{MonikerValue, PackageValue}

abbrev pub holds_nul : List ℕ → Bool
holds_nul text = list_any (λ b. b == 0) text

-- a text without U+0000
abbrev pub name_of : List ℕ → Option (List ℕ)
name_of text = if holds_nul text then None else Some text

unfoldable pub name_in : Data → Option (List ℕ)
name_in d = option_and_then name_of (as_str d)

abbrev pub name_at : List ℕ → Data → Option (List ℕ)
name_at member d = option_and_then name_in (get member d)

abbrev pub kind_of : List ℕ → Option MonikerKind
kind_of text =
    if bytes_eq text (codes "import") then Some Import
    else if bytes_eq text (codes "export") then Some Export
    else if bytes_eq text (codes "local") then Some Local
    else None

abbrev pub kind_by : Option Data → Option MonikerKind
kind_by None = Some Local
kind_by (Some d) = option_and_then kind_of (as_str d)

-- the kind of a moniker: local where it has none
unfoldable pub kind_in : Data → Option MonikerKind
kind_in d = kind_by (get (codes "kind") d)

unfoldable pub moniker_in : Data → Option MonikerValue
moniker_in d =
    option_and_then (λ s. option_and_then (λ i. option_map (λ k. record { scheme = s; identifier = i; kind = k }) (kind_in d)) (name_at (codes "identifier") d))
    (name_at (codes "scheme") d)

abbrev pub version_by : Option Data → Option (List ℕ)
version_by None = Some []
version_by (Some d) = name_in d

-- the version of a package: the empty text where it has none
unfoldable pub version_in : Data → Option (List ℕ)
version_in d = version_by (get (codes "version") d)

unfoldable pub package_in : Data → Option PackageValue
package_in d =
    option_and_then (λ m. option_and_then (λ n. option_map (λ v. record { manager = m; name = n; version = v }) (version_in d)) (name_at (codes "name") d))
    (name_at (codes "manager") d)
