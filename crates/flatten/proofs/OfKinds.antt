-- The elements of a dump, kind by kind.
use Rattle.std.proofs.Common.{◌≡◌, ◌∙◌, Bool, true, false, cond, List, [], ◌∷◌, ◌++◌, map, filter, refl, sym, ap, subst, append-nil}
use Rattle.std.specs.Prelude.{◌↔◌, ℕ, Contains, Option, Ok}
use Rattle.std.specs.Borrow.{Bor}
use Rattle.std.specs.List.{flat_map}
use Rattle.std.proofs.lemmas.List.{append_assoc}
use Rattle.lsif.specs.declared.element.Element.{Element}
use Rattle.lsif.specs.Element.{meta_data, project, document, range, result_set, request_result, hover_result, moniker, package_information, event, other_vertex, contains, next, request_edge, moniker_edge, package_edge, attach, item, other_edge, ElementValue, vertex, edge}
use Rattle.dump.specs.Fault.{IsFaultless}
use Rattle.dump.specs.Monikers.{attach_pairs_of}
use Rattle.dump.specs.Places.{result_pairs_of}
use Rattle.dump.specs.declared.role.Role.TheVariants.{Definitions, References}
use Rattle.flatten.specs.Flat.{MarkRowValue}
use Rattle.flatten.specs.Steps.Borne.{IsBorneBy, MarkText}
use Rattle.flatten.specs.Steps.Documents.{documents_in}
use Rattle.flatten.specs.Steps.Items.{numbers_in, placed_in}
use Rattle.flatten.specs.Steps.Kinds.{AreKinds, AreThose, Takes, is_document, is_moniker_edge, is_range, kept, said}
use Rattle.flatten.specs.Steps.Marks.{IsMarkOfRange}
use Rattle.flatten.specs.Steps.Numbers.{pairs_in, pairs_of}
use Rattle.flatten.specs.Steps.Places.{placed_values}
use Rattle.flatten.specs.Steps.Tables.{OfOne}
use Rattle.flatten.specs.declared.kinds.Kinds.{Kinds}
use Rattle.streams.proofs.Members.{filter_keeps, filter_source}

-- ---- the pass over the elements

-- the list has those before the rest
abbrev pub HasThose : (ElementValue → Bool) → List ElementValue → List ElementValue → List (Bor Element) → Type 0
HasThose is elements rest list = map said list ++ filter is rest ≡ filter is elements

-- the list has what those before the rest say
abbrev pub HasSaid : {Y : Type 0} → (ElementValue → List Y) → List ElementValue → List ElementValue → List Y → Type 0
HasSaid f elements rest list = list ++ flat_map f rest ≡ flat_map f elements

pub record AreTaken (elements rest : List ElementValue) (kinds : Kinds) : Type 0 where
  pub documents : HasThose is_document elements rest kinds.documents.items
  pub ranges : HasThose is_range elements rest kinds.ranges.items
  pub results : HasSaid (numbers_in elements) elements rest kinds.results.items
  pub moniker_edges : HasThose is_moniker_edge elements rest kinds.moniker_edges.items
  pub result_pairs : HasSaid (pairs_in result_pairs_of elements) elements rest kinds.result_pairs.items
  pub definitions : HasSaid (placed_in Definitions elements) elements rest (map placed_values kinds.definitions.items)
  pub references : HasSaid (placed_in References elements) elements rest (map placed_values kinds.references.items)

first_kept : (is : ElementValue → Bool) (x : ElementValue) (rest : List ElementValue) → kept (is x) x ++ filter is rest ≡ filter is (x ∷ rest)
first_kept is x rest = by (is x)
  where
    by : (b : Bool) → kept b x ++ filter is rest ≡ cond b (x ∷ filter is rest) (filter is rest)
    by true = refl
    by false = refl

has_more : (is : ElementValue → Bool) (elements rest : List ElementValue) (x : ElementValue) (old new : List (Bor Element)) → HasThose is elements (x ∷ rest) old → map said new ≡ map said old ++ kept (is x) x → HasThose is elements rest new
has_more is elements rest x old new has grown =
    ap (λ l. l ++ filter is rest) grown ∙ append_assoc (map said old) (kept (is x) x) (filter is rest) ∙ ap (λ l. map said old ++ l) (first_kept is x rest) ∙ has

pub said_more : {Y : Type 0} (f : ElementValue → List Y) (elements rest : List ElementValue) (x : ElementValue) (old new : List Y) → HasSaid f elements (x ∷ rest) old → new ≡ old ++ f x → HasSaid f elements rest new
said_more f elements rest x old new has grown = ap (λ l. l ++ flat_map f rest) grown ∙ append_assoc old (f x) (flat_map f rest) ∙ has

pub said_at : {Y : Type 0} (f : List ElementValue → ElementValue → List Y) (d e : List ElementValue) (x : ElementValue) (old new : List Y) → e ≡ d → new ≡ old ++ f e x → new ≡ old ++ f d x
said_at f d e x old new same grown = grown ∙ ap (λ l. old ++ f l x) same

pub taken_more : (elements rest : List ElementValue) (x : ElementValue) (old new : Kinds) → old.dump.now.elements ≡ elements → AreTaken elements (x ∷ rest) old → Takes old x new → AreTaken elements rest new
taken_more d rest x old new same a t = record {
  documents = has_more is_document d rest x old.documents.items new.documents.items a.documents t.documents;
  ranges = has_more is_range d rest x old.ranges.items new.ranges.items a.ranges t.ranges;
  results = said_more (numbers_in d) d rest x _ _ a.results (said_at numbers_in d _ x _ _ same t.results);
  moniker_edges = has_more is_moniker_edge d rest x old.moniker_edges.items new.moniker_edges.items a.moniker_edges t.moniker_edges;
  result_pairs = said_more (pairs_in result_pairs_of d) d rest x _ _ a.result_pairs (said_at (pairs_in result_pairs_of) d _ x _ _ same t.result_pairs);
  definitions = said_more (placed_in Definitions d) d rest x _ _ a.definitions (said_at (placed_in Definitions) d _ x _ _ same t.definitions);
  references = said_more (placed_in References d) d rest x _ _ a.references (said_at (placed_in References) d _ x _ _ same t.references);
}

has_all : (is : ElementValue → Bool) (elements : List ElementValue) (list : List (Bor Element)) → HasThose is elements [] list → AreThose is elements list
has_all is elements list has = sym (append-nil (map said list)) ∙ has

pub said_all : {Y : Type 0} (f : ElementValue → List Y) (elements : List ElementValue) (list : List Y) → HasSaid f elements [] list → list ≡ flat_map f elements
said_all f elements list has = sym (append-nil list) ∙ has

pub taken_all : (kinds : Kinds) → IsFaultless (map Ok kinds.dump.now.elements) → AreTaken kinds.dump.now.elements [] kinds → AreKinds kinds
taken_all kinds free a =
    let d = kinds.dump.now.elements in
    record {
      faultless = free;
      documents = has_all is_document d kinds.documents.items a.documents;
      ranges = has_all is_range d kinds.ranges.items a.ranges;
      results = said_all (numbers_in d) d _ a.results;
      moniker_edges = has_all is_moniker_edge d kinds.moniker_edges.items a.moniker_edges;
      result_pairs = said_all (pairs_in result_pairs_of d) d _ a.result_pairs;
      definitions = said_all (placed_in Definitions d) d _ a.definitions;
      references = said_all (placed_in References d) d _ a.references;
    }

-- ---- what all elements say is what those of a kind say

flat_filter : {Y : Type 0} (f : ElementValue → List Y) (is : ElementValue → Bool) → ((x : ElementValue) → is x ≡ false → f x ≡ []) → (d : List ElementValue) → flat_map f (filter is d) ≡ flat_map f d
flat_filter f is none [] = refl
flat_filter f is none (x ∷ d) = by (is x) refl (flat_filter f is none d)
  where
    by : (b : Bool) → is x ≡ b → flat_map f (filter is d) ≡ flat_map f d → flat_map f (cond b (x ∷ filter is d) (filter is d)) ≡ f x ++ flat_map f d
    by true e rest = ap (λ l. f x ++ l) rest
    by false e rest = rest ∙ ap (λ l. l ++ flat_map f d) (sym (none x e))

pub flat_those : {Y : Type 0} (f : ElementValue → List Y) (is : ElementValue → Bool) → ((x : ElementValue) → is x ≡ false → f x ≡ []) → (d : List ElementValue) (list : List (Bor Element)) → AreThose is d list → flat_map f (map said list) ≡ flat_map f d
flat_those f is none d list those = ap (flat_map f) those ∙ flat_filter f is none d

no_document : (x : ElementValue) → is_document x ≡ false → documents_in x ≡ []
no_document (vertex i (meta_data b)) e = refl
no_document (vertex i project) e = refl
no_document (vertex i (document u)) e = cc
no_document (vertex i (range s)) e = refl
no_document (vertex i result_set) e = refl
no_document (vertex i (request_result kind)) e = refl
no_document (vertex i (hover_result t)) e = refl
no_document (vertex i (moniker m)) e = refl
no_document (vertex i (package_information p)) e = refl
no_document (vertex i (event v)) e = refl
no_document (vertex i other_vertex) e = refl
no_document (edge i k) e = refl

pub documents_of : (d : List ElementValue) (list : List (Bor Element)) → AreThose is_document d list → flat_map documents_in (map said list) ≡ flat_map documents_in d
documents_of d list those = flat_those documents_in is_document no_document d list those

no_attached : (d : List ElementValue) (x : ElementValue) → is_moniker_edge x ≡ false → pairs_in attach_pairs_of d x ≡ []
no_attached d (edge i (contains a b)) e = refl
no_attached d (edge i (next a b)) e = refl
no_attached d (edge i (request_edge kind a b)) e = refl
no_attached d (edge i (moniker_edge a b)) e = cc
no_attached d (edge i (package_edge a b)) e = refl
no_attached d (edge i (attach a b)) e = cc
no_attached d (edge i (item k)) e = refl
no_attached d (edge i (other_edge a b)) e = refl
no_attached d (vertex i v) e = refl

pub attached_of : (d : List ElementValue) (list : List (Bor Element)) → AreThose is_moniker_edge d list → flat_map (pairs_in attach_pairs_of d) (map said list) ≡ pairs_of attach_pairs_of d
attached_of d list those = flat_those (pairs_in attach_pairs_of d) is_moniker_edge (no_attached d) d list those

-- ---- what is so of one of all is so of one of a kind

one_of_those : {R : Type 0} (P : ElementValue → R → Type 0) (is : ElementValue → Bool) (d : List ElementValue) (list : List (Bor Element)) → AreThose is d list → ((x : ElementValue) (row : R) → P x row → is x ≡ true) → (row : R) → OfOne P (map said list) row ↔ OfOne P d row
one_of_those P is d list those passes row = (
  λ o. (o.0, (filter_source is d o.0 (subst (λ l. Contains l o.0) those o.1)).0, o.2),
  λ o. (o.0, subst (λ l. Contains l o.0) (sym those) (filter_keeps is d o.0 o.1 (passes o.0 row o.2)), o.2),
)

borne_by_edge : (d : List ElementValue) (attached : List (ℕ × ℕ)) (x : ElementValue) (row : ℕ × ℕ) → IsBorneBy d attached x row → is_moniker_edge x ≡ true
borne_by_edge d attached (edge i (contains a b)) row h = absurd h
borne_by_edge d attached (edge i (next a b)) row h = absurd h
borne_by_edge d attached (edge i (request_edge kind a b)) row h = absurd h
borne_by_edge d attached (edge i (moniker_edge a b)) row h = refl
borne_by_edge d attached (edge i (package_edge a b)) row h = absurd h
borne_by_edge d attached (edge i (attach a b)) row h = absurd h
borne_by_edge d attached (edge i (item e)) row h = absurd h
borne_by_edge d attached (edge i (other_edge a b)) row h = absurd h
borne_by_edge d attached (vertex i v) row h = absurd h

pub borne_of_edges : (d : List ElementValue) (attached : List (ℕ × ℕ)) (list : List (Bor Element)) → AreThose is_moniker_edge d list → (p : ℕ × ℕ) → OfOne (IsBorneBy d attached) (map said list) p ↔ OfOne (IsBorneBy d attached) d p
borne_of_edges d attached list those = one_of_those (IsBorneBy d attached) is_moniker_edge d list those (borne_by_edge d attached)

mark_of_range : (d : List ElementValue) (borne : List (ℕ × ℕ)) (marks : List (Option MarkText)) (x : ElementValue) (row : MarkRowValue) → IsMarkOfRange d borne marks x row → is_range x ≡ true
mark_of_range d borne marks (vertex i (meta_data b)) row h = absurd h
mark_of_range d borne marks (vertex i project) row h = absurd h
mark_of_range d borne marks (vertex i (document u)) row h = absurd h
mark_of_range d borne marks (vertex i (range s)) row h = refl
mark_of_range d borne marks (vertex i result_set) row h = absurd h
mark_of_range d borne marks (vertex i (request_result kind)) row h = absurd h
mark_of_range d borne marks (vertex i (hover_result t)) row h = absurd h
mark_of_range d borne marks (vertex i (moniker m)) row h = absurd h
mark_of_range d borne marks (vertex i (package_information p)) row h = absurd h
mark_of_range d borne marks (vertex i (event v)) row h = absurd h
mark_of_range d borne marks (vertex i other_vertex) row h = absurd h
mark_of_range d borne marks (edge i k) row h = absurd h

pub marks_of_ranges : (d : List ElementValue) (borne : List (ℕ × ℕ)) (marks : List (Option MarkText)) (list : List (Bor Element)) → AreThose is_range d list → (row : MarkRowValue) → OfOne (IsMarkOfRange d borne marks) (map said list) row ↔ OfOne (IsMarkOfRange d borne marks) d row
marks_of_ranges d borne marks list those = one_of_those (IsMarkOfRange d borne marks) is_range d list those (mark_of_range d borne marks)
