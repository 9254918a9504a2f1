-- The definitions on small dumps, in which the id of each element is the number of its line.
use Rattle.std.proofs.Common.{ℕ, true, List, [], ◌∷◌, refl, inr, arith}
use Rattle.std.specs.Prelude.{Some, None, codes}
use Rattle.positions.specs.Span.{SpanValue}
use Rattle.lsif.specs.declared.element.MonikerKind.{MonikerKind}
use Rattle.lsif.specs.declared.element.MonikerKind.TheVariants.{Import, Export}
use Rattle.lsif.specs.declared.element.Property.TheVariants as properties
use Rattle.lsif.specs.Element.{IdValue, number, meta_data, document, range, result_set, request_result, moniker, package_information, contains, next, request_edge, moniker_edge, package_edge, ItemValue, item, ElementValue, vertex, edge}
use Rattle.lsif.specs.declared.request_kind.RequestKind.TheVariants as requests
use Rattle.dump.specs.declared.role.Role.TheVariants as roles
use Rattle.dump.specs.Graph.{element_at}
use Rattle.dump.specs.Monikers.{MonikerKey, MarkValue, Bears}
use Rattle.dump.specs.Places.{Places, result_pairs}
use Rattle.dump.specs.Requests.{First, Speaks}
use Rattle.dump.specs.Walks.{Path, stays, goes, ends, links}

abbrev span_at : ℕ → ℕ → ℕ → SpanValue
span_at line from to = record { start = record { line = line; character = from }; «end» = record { line = line; character = to } }

abbrev joins : IdValue → List IdValue → ItemValue
joins source targets = record { source = source; targets = targets; property = None; shard = number 2 }

-- ---- a chain and its places

-- ranges 3 and 4 lead to result set 5, which has definition result 8, to which range 3 is joined
abbrev base : List ElementValue
base =
    vertex (number 1) (meta_data true)
    ∷ vertex (number 2) (document (codes "file:///a.ts"))
    ∷ vertex (number 3) (range (span_at 0 4 7))
    ∷ vertex (number 4) (range (span_at 2 0 3))
    ∷ vertex (number 5) result_set
    ∷ edge (number 6) (next (number 3) (number 5))
    ∷ edge (number 7) (next (number 4) (number 5))
    ∷ vertex (number 8) (request_result requests.Definition)
    ∷ edge (number 9) (request_edge requests.Definition (number 5) (number 8))
    ∷ edge (number 10) (item (joins (number 8) (number 3 ∷ [])))
    ∷ edge (number 11) (contains (number 2) (number 3 ∷ number 4 ∷ []))
    ∷ []

-- range 4 has the first result that its result set has
pub first_along_the_chain : First requests.Definition base (number 4) (Some (number 8))
first_along_the_chain = (number 4 ∷ number 5 ∷ [], links refl (ends refl), refl)

-- it has none for hover
pub no_first_hover : First requests.Hover base (number 4) None
no_first_hover = (number 4 ∷ number 5 ∷ [], links refl (ends refl), refl)

-- the place of the result is that of range 3
pub place_of_the_result : Places (roles.Definitions ∷ []) base (number 8) (record { uri = codes "file:///a.ts"; span = span_at 0 4 7 })
unfolding element_at
place_of_the_result = (
  number 8,
  stays,
  (
    number 3,
    record { id = number 10; joining = joins (number 8) (number 3 ∷ []); role = roles.Definitions; is_there = (9, omega arith, refl); source = refl; has_role = refl; is_asked = (0, omega arith, refl); target = (0, omega arith, refl) },
    record { container = number 2; uri = refl; contained = refl; span = refl },
  ),
)

-- ---- results that lead to each other

abbrev leads : IdValue → IdValue → ItemValue
leads source target = record { source = source; targets = target ∷ []; property = Some properties.ReferenceResults; shard = number 2 }

abbrev round : List ElementValue
round =
    vertex (number 5) (request_result requests.References)
    ∷ vertex (number 6) (request_result requests.References)
    ∷ edge (number 8) (item (leads (number 5) (number 6)))
    ∷ edge (number 9) (item (leads (number 6) (number 5)))
    ∷ []

-- from result 6 a path leads to result 5, and from there back
pub path_to_the_other : Path (result_pairs round) (number 6) (number 5)
path_to_the_other = goes (number 5) stays (1, omega arith, refl)

pub path_back : Path (result_pairs round) (number 6) (number 6)
path_back = goes (number 6) path_to_the_other (0, omega arith, refl)

-- ---- monikers

-- range 3 has a moniker of this kind, of a package of this version
abbrev named : MonikerKind → List ℕ → List ElementValue
named kind version =
    vertex (number 3) (range (span_at 1 0 3))
    ∷ vertex (number 4) (moniker (record { scheme = codes "npm"; identifier = codes "lib::f"; kind = kind }))
    ∷ vertex (number 5) (package_information (record { manager = codes "npm"; name = codes "lib"; version = version }))
    ∷ edge (number 6) (moniker_edge (number 3) (number 4))
    ∷ edge (number 7) (package_edge (number 4) (number 5))
    ∷ []

abbrev key_of : List ℕ → MonikerKey
key_of version = record { scheme = codes "npm"; identifier = codes "lib::f"; «package» = Some (record { manager = codes "npm"; name = codes "lib"; version = version }) }

abbrev mark_of_kind : MonikerKind → List ℕ → MarkValue
mark_of_kind kind version = record { kind = kind; key = key_of version }

-- it has the mark of this kind, whose key has the package
pub borne_mark : (kind : MonikerKind) (version : List ℕ) → Bears (named kind version) (number 3) (mark_of_kind kind version)
unfolding element_at
borne_mark kind version = (number 4, number 4, (0, omega arith, refl), stays, refl)

-- where that is an import, the range answers a definition, though it has no result
pub import_speaks : (version : List ℕ) → Speaks requests.Definition (named Import version) (number 3)
import_speaks version = inr (mark_of_kind Import version, (number 3 ∷ [], number 3, ends refl, (0, omega arith, refl), borne_mark Import version), refl)

-- where it's an export, it answers references
pub export_speaks : (version : List ℕ) → Speaks requests.References (named Export version) (number 3)
export_speaks version = inr (mark_of_kind Export version, (number 3 ∷ [], number 3, ends refl, (0, omega arith, refl), borne_mark Export version), refl)
