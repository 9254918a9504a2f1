-- The places of a result are a finite set.
use Rattle.std.proofs.Common.{◌≡◌, true, List, map, refl, subst}
use Rattle.std.specs.Prelude.{Contains, Some, Ok}
use Rattle.lsif.specs.Element.{IdValue, ItemValue, contains, next, request_edge, moniker_edge, package_edge, attach, item, other_edge, ElementValue, vertex, edge}
use Rattle.lsif.specs.declared.request_kind.RequestKind.{RequestKind}
use Rattle.dump.specs.declared.role.Role.{Role}
use Rattle.dump.specs.Fault.{IsFaultless}
use Rattle.dump.specs.Graph.{vertex_at}
use Rattle.dump.specs.Places.{IsAt, IsItem, IsItemPlace, Places, role_of, result_pairs}
use Rattle.dump.specs.Progress.{DumpValue}
use Rattle.dump.specs.Requests.{First}
use Rattle.dump.specs.Walks.{Path}
use Rattle.dump.proofs.Known.{is_in_container}
use Rattle.dump.proofs.Progresses.{sound_of}
use Rattle.machine.specs.Answers.{HasPlace}
use Rattle.machine.specs.Steps.Places.{is_wanted, places_of_range}
use Rattle.machine.proofs.DumpSets.{first_results, path_ends, same_ids}
use Rattle.machine.proofs.Finite.{Finite, is_true, both, of_list, of_none, of_same, of_those, of_union}
use Rattle.machine.proofs.Gathers.{HasContainers, range_from, spanned_to, wanted_from, wanted_to}

-- the element is an `item` edge out of the result, in one of these roles, to the range
abbrev Joins : List Role → IdValue → ElementValue → IdValue → Type 0
Joins in_roles result x r =
    (i : IdValue) × (e : ItemValue) × (x ≡ edge i (item e)) × (e.source ≡ result) × (is_wanted in_roles (role_of e.property) ≡ true) × Contains e.targets r

item_same : (i j : IdValue) (e f : ItemValue) → edge i (item e) ≡ edge j (item f) → f ≡ e
item_same i j e f same = cc

no_joins : (in_roles : List Role) (result : IdValue) (x : ElementValue) → ((i : IdValue) (e : ItemValue) → x ≡ edge i (item e) → ⊥) → Finite (Joins in_roles result x)
no_joins in_roles result x none = of_none (Joins in_roles result x) (λ r h. none h.0 h.1 h.2)

joins : (in_roles : List Role) (result : IdValue) (x : ElementValue) → Finite (Joins in_roles result x)
joins in_roles result (vertex i v) = no_joins in_roles result (vertex i v) (λ j e clash. cc)
joins in_roles result (edge i (contains from to)) = no_joins in_roles result (edge i (contains from to)) (λ j e clash. cc)
joins in_roles result (edge i (next from to)) = no_joins in_roles result (edge i (next from to)) (λ j e clash. cc)
joins in_roles result (edge i (request_edge kind from to)) = no_joins in_roles result (edge i (request_edge kind from to)) (λ j e clash. cc)
joins in_roles result (edge i (moniker_edge from to)) = no_joins in_roles result (edge i (moniker_edge from to)) (λ j e clash. cc)
joins in_roles result (edge i (package_edge from to)) = no_joins in_roles result (edge i (package_edge from to)) (λ j e clash. cc)
joins in_roles result (edge i (attach from to)) = no_joins in_roles result (edge i (attach from to)) (λ j e clash. cc)
joins in_roles result (edge i (other_edge from to)) = no_joins in_roles result (edge i (other_edge from to)) (λ j e clash. cc)
joins in_roles result (edge i (item e)) =
    of_same (λ r. Contains e.targets r × ((e.source ≡ result) × (is_wanted in_roles (role_of e.property) ≡ true))) (Joins in_roles result (edge i (item e)))
    (λ r. (
      λ h. (i, e, refl, h.1.0, h.1.1, h.0),
      λ h. subst (λ (f : ItemValue). Contains f.targets r × ((f.source ≡ result) × (is_wanted in_roles (role_of f.property) ≡ true))) (item_same i h.0 e h.1 h.2) (h.5, (h.3, h.4)),
    ))
    (of_those (Contains e.targets) (λ r. (e.source ≡ result) × (is_wanted in_roles (role_of e.property) ≡ true)) (of_list e.targets) (λ r at. both (same_ids e.source result) (is_true (is_wanted in_roles (role_of e.property)))))

items : (in_roles : List Role) (d : List ElementValue) (result : IdValue) → Finite (IsItem in_roles d result)
items in_roles d result = of_same (λ r. (x : ElementValue) × Contains d x × Joins in_roles result x r) (IsItem in_roles d result)
    (λ r. (
      λ (x, at, (i, e, is, source, asked, target)). let w = wanted_to in_roles (role_of e.property) asked in record {
        id = i;
        joining = e;
        role = w.0;
        is_there = subst (Contains d) is at;
        source = source;
        has_role = w.1;
        is_asked = w.2;
        target = target;
      },
      λ j. (edge j.id (item j.joining), j.is_there, (j.id, j.joining, refl, j.source, wanted_from in_roles (role_of j.joining.property) j.role j.has_role j.is_asked, j.target)),
    ))
    (of_union (λ x r. Joins in_roles result x r) (Contains d) (of_list d) (λ x at. joins in_roles result x))

module _ (in_roles : List Role) (d : List ElementValue) (free : IsFaultless (map Ok d)) where
  containers : HasContainers d
  containers = is_in_container d (sound_of d free)

  at_range : (r : IdValue) → Finite (IsAt d r)
  at_range r = record { members = places_of_range d r; each = λ place. (spanned_to d containers r place (vertex_at d r) refl, range_from d containers r place) }

  item_places : (result : IdValue) → Finite (IsItemPlace in_roles d result)
  item_places result = of_union (λ r place. IsAt d r place) (IsItem in_roles d result) (items in_roles d result) (λ r j. at_range r)

  places : (result : IdValue) → Finite (Places in_roles d result)
  places result = of_union (λ other place. IsItemPlace in_roles d other place) (Path (result_pairs d) result) (path_ends (result_pairs d) result) (λ other path. item_places other)

-- those of the first result of a vertex
pub first_places : (request : RequestKind) (in_roles : List Role) (dump : DumpValue) → IsFaultless (map Ok dump.elements) → (x : IdValue) → Finite (HasPlace request in_roles dump x)
first_places request in_roles dump free x =
    of_union (λ result place. Places in_roles dump.elements result place) (λ result. First request dump.elements x (Some result)) (first_results dump.elements free request x) (λ result first. places in_roles dump.elements free result)
