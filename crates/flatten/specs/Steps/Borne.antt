-- The monikers that vertices have, by numbers, and the texts of their marks.
use Rattle.std.specs.Prelude.{◌≡◌, ℕ, List, map, Option, Some, None, option_map, Contains}
use Rattle.std.specs.Rc.{rc_str_bytes}
use Rattle.lsif.specs.declared.element.MonikerKind.{MonikerKind}
use Rattle.lsif.specs.Element.{IdValue, MonikerValue, moniker, moniker_edge, ElementValue, vertex, edge}
use Rattle.dump.specs.Monikers.{Near, moniker_pairs, package_of}
use Rattle.dump.specs.Walks.{Path}
use Rattle.flatten.specs.Flat.{number_of}
use Rattle.flatten.specs.KeyTexts.{key_text, moniker_key}
use Rattle.flatten.specs.declared.borne.Mark.{Mark}

-- a kind, and the text of a key
pub record MarkText : Type 0 where
  pub kind : MonikerKind
  pub key : List ℕ

abbrev pub mark_value : Mark → MarkText
mark_value m = record { kind = m.kind; key = rc_str_bytes m.key }

-- the marks that a table has
abbrev pub mark_values : List (Option Mark) → List (Option MarkText)
mark_values marks = map (option_map mark_value) marks

abbrev pub text_of : List ElementValue → IdValue → MonikerValue → MarkText
text_of elements i m = record { kind = m.kind; key = key_text (moniker_key m (package_of elements i)) }

-- where the element is a moniker: its mark
abbrev pub mark_text : List ElementValue → ElementValue → Option MarkText
mark_text elements (vertex i (moniker m)) = Some (text_of elements i m)
mark_text elements (vertex i v) = None
mark_text elements (edge i e) = None

-- the numbers of a vertex and of a moniker that it has
pub record IsBorne (elements : List ElementValue) (p : ℕ × ℕ) : Type 0 where
  pub vertex : IdValue
  pub bound : IdValue
  pub near : IdValue
  pub at_vertex : number_of elements vertex ≡ Some p.0
  pub is_bound : Contains (moniker_pairs elements) (vertex, bound)
  pub is_near : Near elements bound near
  pub at_near : number_of elements near ≡ Some p.1

-- the same, by the `moniker` edge that the element is
abbrev pub IsBorneBy : List ElementValue → List (ℕ × ℕ) → ElementValue → ℕ × ℕ → Type 0
IsBorneBy elements attached (edge i (moniker_edge from to)) p =
    (m : ℕ) × (number_of elements from ≡ Some p.0) × (number_of elements to ≡ Some m) × Path attached m p.1
IsBorneBy elements attached (edge i e) p = ⊥
IsBorneBy elements attached (vertex i v) p = ⊥
