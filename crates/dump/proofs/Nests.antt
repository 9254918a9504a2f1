-- In a sound dump two ranges of one document don't conflict.
use Rattle.std.proofs.Common.{◌≡◌, ◌⊎◌, inl, inr, ⊎_elim, ◌∙◌, ◌&&◌, ◌||◌, ◌++◌, ◌∷◌, [], ℕ, Bool, true, false, not, if◌then◌else◌, List, refl, sym, ap, ap₂, subst, arith, find, Option, Some, None, option_and_then, is_some}
use Rattle.std.specs.List.{list_any, list_all, flat_map, cons_option}
use Rattle.std.specs.Option.{option_or}
use Rattle.std.proofs.lemmas.List.Folds.{find-append, list_any-append}
use Rattle.positions.specs.Position.{PositionValue, is_before, later_of, earlier_of}
use Rattle.positions.specs.Span.{SpanValue, nests, overlaps}
use Rattle.lsif.specs.Element.{IdValue, same_id, VertexValue, meta_data, project, document, range, result_set, request_result, hover_result, moniker, package_information, event, other_vertex, contains, next, request_edge, moniker_edge, package_edge, attach, item, other_edge, ElementValue, vertex, edge, element_id}
use Rattle.dump.specs.Graph.{element_at, vertex_of, vertex_at, span_of, is_among}
use Rattle.dump.specs.Kinds.{is_document}
use Rattle.dump.specs.Contained.{places_range, spans_of, spans_named, spans_in, conflicts, any_conflicts, has_conflict, IsNested}
use Rattle.dump.specs.Conditions.{are_vertices, may_not_join}
use Rattle.dump.specs.Progress.{IsSound}
use Rattle.streams.proofs.Bools.{or_none, or_some, and_both, and_rest, not_false}
use Rattle.dump.proofs.SameIds.{same_id_eq}
use Rattle.dump.proofs.Rows.{contains_fits}
use Rattle.dump.proofs.Ends.{HasNoCode, holds}

-- a `contains` edge out of this vertex names the range
abbrev pub placed : List ElementValue → IdValue → IdValue → Bool
placed d v r = list_any (places_range v r) d

-- ---- tests

pub true_not_false : {P : Type 0} (a : Bool) → a ≡ true → a ≡ false → P
true_not_false true t f = cc
true_not_false false t f = cc

-- ---- conflicts don't know which span comes first

pub equal_positions : (a b : PositionValue) → is_before a b ≡ false → is_before b a ≡ false → a ≡ b
equal_positions a b e f =
    let line : a.line ≡ b.line = grind (arith, e, f) in
    let character : a.character ≡ b.character = grind (arith, e, f) in
    let make : ℕ → ℕ → PositionValue = λ l c. record { line = l; character = c } in
    ap₂ make line character

later_by : (a b : PositionValue) (s t : Bool) → is_before a b ≡ s → is_before b a ≡ t → (if s then b else a) ≡ (if t then a else b)
later_by a b true true e f = grind (arith, e, f)
later_by a b true false e f = refl
later_by a b false true e f = refl
later_by a b false false e f = equal_positions a b e f

later_either : (a b : PositionValue) → later_of a b ≡ later_of b a
later_either a b = later_by a b (is_before a b) (is_before b a) refl refl

earlier_by : (a b : PositionValue) (s t : Bool) → is_before b a ≡ s → is_before a b ≡ t → (if s then b else a) ≡ (if t then a else b)
earlier_by a b true true e f = grind (arith, e, f)
earlier_by a b true false e f = refl
earlier_by a b false true e f = refl
earlier_by a b false false e f = equal_positions a b f e

earlier_either : (a b : PositionValue) → earlier_of a b ≡ earlier_of b a
earlier_either a b = earlier_by a b (is_before b a) (is_before a b) refl refl

conflict_by : (n m o : Bool) → ((n && m) || (o && not n && not m)) ≡ ((m && n) || (o && not m && not n))
conflict_by true true o = refl
conflict_by true false true = refl
conflict_by true false false = refl
conflict_by false true true = refl
conflict_by false true false = refl
conflict_by false false true = refl
conflict_by false false false = refl

pub either_conflict : (e f : SpanValue) → conflicts e f ≡ conflicts f e
either_conflict e f =
    let same : overlaps e f ≡ overlaps f e = ap₂ is_before (later_either e.start f.start) (earlier_either e.«end» f.«end») in
    rw same (conflict_by (nests e f) (nests f e) (overlaps f e))

-- ---- members

pub all_among : (p : IdValue → Bool) (is : List IdValue) (r : IdValue) → list_all p is ≡ true → is_among r is ≡ true → p r ≡ true
all_among p [] r all at = cc
all_among p (i ∷ is) r all at =
    let both = and_both (p i) (list_all p is) all in
    elim (or_some (same_id i r) (is_among r is) at) [ inl here ↦ subst (λ j. p j ≡ true) (same_id_eq i r here) both.0 | inr later ↦ all_among p is r both.1 later ]

-- a test that no span of the ranges passes
span_fails_by : (p : SpanValue → Bool) (o : Option SpanValue) (rest : List SpanValue) → list_any p (cons_option o rest) ≡ false → ((e : SpanValue) → o ≡ Some e → p e ≡ false) × (list_any p rest ≡ false)
span_fails_by p None rest none = (λ e h. cc, none)
span_fails_by p (Some s) rest none =
    let both = or_none (p s) (list_any p rest) none in
    (λ e h. let same : s ≡ e = cc in subst (λ t. p t ≡ false) same both.0, both.1)

span_fails : (d : List ElementValue) (p : SpanValue → Bool) (is : List IdValue) (r : IdValue) (e : SpanValue) → list_any p (spans_of d is) ≡ false → is_among r is ≡ true → span_of (vertex_at d r) ≡ Some e → p e ≡ false
span_fails d p [] r e none at is = cc
span_fails d p (i ∷ is) r e none at has =
    let both = span_fails_by p (span_of (vertex_at d i)) (spans_of d is) none in
    elim (or_some (same_id i r) (is_among r is) at) [
      | inl here ↦ both.0 e (ap (λ j. span_of (vertex_at d j)) (same_id_eq i r here) ∙ has)
      | inr later ↦ span_fails d p is r e both.1 later has
    ]

named_fails_by : (d : List ElementValue) (p : SpanValue → Bool) (to : List IdValue) (r : IdValue) (e : SpanValue) (b : Bool) → list_any p (if b then spans_of d to else []) ≡ false → (b && is_among r to) ≡ true → span_of (vertex_at d r) ≡ Some e → p e ≡ false
named_fails_by d p to r e true none at has = span_fails d p to r e none at has
named_fails_by d p to r e false none at has = cc

named_fails : (d : List ElementValue) (p : SpanValue → Bool) (v : IdValue) (x : ElementValue) (r : IdValue) (e : SpanValue) → list_any p (spans_named d v x) ≡ false → places_range v r x ≡ true → span_of (vertex_at d r) ≡ Some e → p e ≡ false
named_fails d p v (edge i (contains from to)) r e none at has = named_fails_by d p to r e (same_id from v) none at has
named_fails d p v (edge i (next from to)) r e none at has = cc
named_fails d p v (edge i (request_edge kind from to)) r e none at has = cc
named_fails d p v (edge i (moniker_edge from to)) r e none at has = cc
named_fails d p v (edge i (package_edge from to)) r e none at has = cc
named_fails d p v (edge i (attach from to)) r e none at has = cc
named_fails d p v (edge i (item t)) r e none at has = cc
named_fails d p v (edge i (other_edge from to)) r e none at has = cc
named_fails d p v (vertex i w) r e none at has = cc

in_fails : (d : List ElementValue) (p : SpanValue → Bool) (v : IdValue) (xs : List ElementValue) (r : IdValue) (e : SpanValue) → list_any p (flat_map (spans_named d v) xs) ≡ false → list_any (places_range v r) xs ≡ true → span_of (vertex_at d r) ≡ Some e → p e ≡ false
in_fails d p v [] r e none at has = cc
in_fails d p v (x ∷ xs) r e none at has =
    let both = or_none (list_any p (spans_named d v x)) (list_any p (flat_map (spans_named d v) xs)) (sym (list_any-append p (spans_named d v x) (flat_map (spans_named d v) xs)) ∙ none) in
    elim (or_some (places_range v r x) (list_any (places_range v r) xs) at) [ inl here ↦ named_fails d p v x r e both.0 here has | inr later ↦ in_fails d p v xs r e both.1 later has ]

-- ranges that are next to each other in a list without conflict
beside_by : (d : List ElementValue) (o : Option SpanValue) (is : List IdValue) → has_conflict (cons_option o (spans_of d is)) ≡ false → ((e : SpanValue) → o ≡ Some e → list_any (conflicts e) (spans_of d is) ≡ false) × (has_conflict (spans_of d is) ≡ false)
beside_by d None is none = (λ e h. cc, none)
beside_by d (Some s) is none =
    let both = or_none (list_any (conflicts s) (spans_of d is)) (has_conflict (spans_of d is)) none in
    (λ e h. let same : s ≡ e = cc in subst (λ t. list_any (conflicts t) (spans_of d is) ≡ false) same both.0, both.1)

beside : (d : List ElementValue) (is : List IdValue) (r s : IdValue) (e f : SpanValue) → has_conflict (spans_of d is) ≡ false → is_among r is ≡ true → is_among s is ≡ true → span_of (vertex_at d r) ≡ Some e → span_of (vertex_at d s) ≡ Some f → (r ≡ s → ⊥) → conflicts e f ≡ false
beside d [] r s e f none at_r at_s has_r has_s apart = cc
beside d (i ∷ is) r s e f none at_r at_s has_r has_s apart =
    let both = beside_by d (span_of (vertex_at d i)) is none in
    let span_at = λ (j : IdValue) (g : SpanValue) (here : same_id i j ≡ true) (has : span_of (vertex_at d j) ≡ Some g). ap (λ k. span_of (vertex_at d k)) (same_id_eq i j here) ∙ has in
    elim (or_some (same_id i r) (is_among r is) at_r) [
      | inl here_r ↦ elim (or_some (same_id i s) (is_among s is) at_s) [
        | inl here_s ↦ absurd (apart (sym (same_id_eq i r here_r) ∙ same_id_eq i s here_s))
        | inr later_s ↦ span_fails d (conflicts e) is s f (both.0 e (span_at r e here_r has_r)) later_s has_s
      ]
      | inr later_r ↦ elim (or_some (same_id i s) (is_among s is) at_s) [
        | inl here_s ↦ either_conflict e f ∙ span_fails d (conflicts f) is r e (both.0 f (span_at s f here_s has_s)) later_r has_r
        | inr later_s ↦ beside d is r s e f both.1 later_r later_s has_r has_s apart
      ]
    ]

-- ---- one element more

abbrev Known : List ElementValue → Type 0
Known d = (v r : IdValue) → placed d v r ≡ true → (w : VertexValue) × (vertex_at d r ≡ Some w)

abbrev Clear : List ElementValue → Type 0
Clear d = (v r s : IdValue) (e f : SpanValue) → placed d v r ≡ true → placed d v s ≡ true
    → span_of (vertex_at d r) ≡ Some e → span_of (vertex_at d s) ≡ Some f → (r ≡ s → ⊥) → conflicts e f ≡ false

none_vertex : (o : Option ElementValue) (w : VertexValue) → option_and_then vertex_of o ≡ Some w → (y : ElementValue) × (o ≡ Some y)
none_vertex None w e = cc
none_vertex (Some y) w e = (y, refl)

-- a vertex stays what it is
pub kept_vertex : (d : List ElementValue) (x : ElementValue) (r : IdValue) (w : VertexValue) → vertex_at d r ≡ Some w → vertex_at (d ++ x ∷ []) r ≡ vertex_at d r
unfolding element_at
kept_vertex d x r w e =
    let found = none_vertex (element_at d r) w e in
    let p = λ (y : ElementValue). same_id (element_id y) r in
    let more : element_at (d ++ x ∷ []) r ≡ element_at d r = find-append p d (x ∷ []) ∙ ap (λ o. option_or o (find p (x ∷ []))) found.1 ∙ sym found.1 in
    ap (option_and_then vertex_of) more

in_more : (d : List ElementValue) (x : ElementValue) (v r : IdValue) → placed (d ++ x ∷ []) v r ≡ true → (placed d v r ≡ true) ⊎ (places_range v r x ≡ true)
in_more d x v r e =
    elim (or_some (placed d v r) (places_range v r x || false) (sym (list_any-append (places_range v r) d (x ∷ [])) ∙ e)) [
      | inl old ↦ inl old
      | inr new ↦ elim (or_some (places_range v r x) false new) [ inl now ↦ inr now | inr other ↦ cc ]
    ]

pub vertex_there : (o : Option VertexValue) → is_some o ≡ true → (w : VertexValue) × (o ≡ Some w)
vertex_there None e = cc
vertex_there (Some w) e = (w, refl)

-- the targets of a `contains` edge without a code are vertices
known_here : (d : List ElementValue) (x : ElementValue) → HasNoCode d x → (v r : IdValue) → places_range v r x ≡ true → (w : VertexValue) × (vertex_at d r ≡ Some w)
known_here d (edge i (contains from to)) free v r at =
    let all = and_both (is_some (vertex_at d from)) (are_vertices d to) (not_false (are_vertices d (from ∷ to)) free.ends) in
    vertex_there (vertex_at d r) (all_among (λ j. is_some (vertex_at d j)) to r all.1 (and_both (same_id from v) (is_among r to) at).1)
known_here d (edge i (next from to)) free v r at = cc
known_here d (edge i (request_edge kind from to)) free v r at = cc
known_here d (edge i (moniker_edge from to)) free v r at = cc
known_here d (edge i (package_edge from to)) free v r at = cc
known_here d (edge i (attach from to)) free v r at = cc
known_here d (edge i (item t)) free v r at = cc
known_here d (edge i (other_edge from to)) free v r at = cc
known_here d (vertex i w) free v r at = cc

known_old : (d : List ElementValue) (x : ElementValue) → Known d → HasNoCode d x → (v r : IdValue) → placed (d ++ x ∷ []) v r ≡ true → (w : VertexValue) × (vertex_at d r ≡ Some w)
known_old d x known free v r at = elim (in_more d x v r at) [ inl old ↦ known v r old | inr now ↦ known_here d x free v r now ]

known_more : (d : List ElementValue) (x : ElementValue) → Known d → HasNoCode d x → Known (d ++ x ∷ [])
known_more d x known free v r at =
    let old = known_old d x known free v r at in
    (old.0, kept_vertex d x r old.0 old.1 ∙ old.1)

-- ---- the new targets

pub range_is_no_document : (o : Option VertexValue) (e : SpanValue) → span_of o ≡ Some e → is_document o ≡ true → ⊥
range_is_no_document None e h t = cc
range_is_no_document (Some (document s)) e h t = cc
range_is_no_document (Some (meta_data b)) e h t = cc
range_is_no_document (Some project) e h t = cc
range_is_no_document (Some (range s)) e h t = cc
range_is_no_document (Some result_set) e h t = cc
range_is_no_document (Some (request_result kind)) e h t = cc
range_is_no_document (Some (hover_result w)) e h t = cc
range_is_no_document (Some (moniker w)) e h t = cc
range_is_no_document (Some (package_information w)) e h t = cc
range_is_no_document (Some (event w)) e h t = cc
range_is_no_document (Some other_vertex) e h t = cc

-- a `contains` edge to a range leaves a document
leaves_document : (d : List ElementValue) (i from : IdValue) (to : List IdValue) (r : IdValue) (e : SpanValue) → may_not_join d (edge i (contains from to)) ≡ false
    → is_among r to ≡ true → span_of (vertex_at d r) ≡ Some e → is_document (vertex_at d from) ≡ true
leaves_document d i from to r e free at has = ⊎_elim
    (λ (leaves : is_document (vertex_at d from) ≡ true). leaves)
    (λ (documents : list_all (λ j. is_document (vertex_at d j)) to ≡ true).
    absurd (range_is_no_document (vertex_at d r) e has (all_among (λ j. is_document (vertex_at d j)) to r documents at)))
    (contains_fits d i from to free)

-- what the targets of a `contains` edge without a code are to each other and to those before them
pub record ClearOf (d : List ElementValue) (from : IdValue) (to : List IdValue) : Type 0 where
  pub before : any_conflicts (spans_of d to) (spans_in d from) ≡ false
  pub beside : has_conflict (spans_of d to) ≡ false

clear_of : (d : List ElementValue) (i from : IdValue) (to : List IdValue) → HasNoCode d (edge i (contains from to)) → (r : IdValue) (e : SpanValue) → is_among r to ≡ true → span_of (vertex_at d r) ≡ Some e → ClearOf d from to
clear_of d i from to free r e at has =
    let is_doc = leaves_document d i from to r e free.joins at has in
    let none = and_rest (is_document (vertex_at d from)) (any_conflicts (spans_of d to) (spans_in d from) || has_conflict (spans_of d to)) is_doc free.conflict in
    let both = or_none (any_conflicts (spans_of d to) (spans_in d from)) (has_conflict (spans_of d to)) none in
    record { before = both.0; beside = both.1 }

-- a new target and a range that the document contained before
new_and_old : (d : List ElementValue) (x : ElementValue) → HasNoCode d x → (v r s : IdValue) (e f : SpanValue) → places_range v r x ≡ true → placed d v s ≡ true
    → span_of (vertex_at d r) ≡ Some e → span_of (vertex_at d s) ≡ Some f → conflicts e f ≡ false
new_and_old d (edge i (contains from to)) free v r s e f at_r at_s has_r has_s =
    let here = and_both (same_id from v) (is_among r to) at_r in
    let clear = clear_of d i from to free r e here.1 has_r in
    let old : placed d from s ≡ true = subst (λ u. placed d u s ≡ true) (sym (same_id_eq from v here.0)) at_s in
    let fails = span_fails d (λ t. list_any (conflicts t) (spans_in d from)) to r e clear.before here.1 has_r in
    in_fails d (conflicts e) from d s f fails old has_s
new_and_old d (edge i (next from to)) free v r s e f at_r at_s has_r has_s = cc
new_and_old d (edge i (request_edge kind from to)) free v r s e f at_r at_s has_r has_s = cc
new_and_old d (edge i (moniker_edge from to)) free v r s e f at_r at_s has_r has_s = cc
new_and_old d (edge i (package_edge from to)) free v r s e f at_r at_s has_r has_s = cc
new_and_old d (edge i (attach from to)) free v r s e f at_r at_s has_r has_s = cc
new_and_old d (edge i (item t)) free v r s e f at_r at_s has_r has_s = cc
new_and_old d (edge i (other_edge from to)) free v r s e f at_r at_s has_r has_s = cc
new_and_old d (vertex i w) free v r s e f at_r at_s has_r has_s = cc

-- two new targets
new_and_new : (d : List ElementValue) (x : ElementValue) → HasNoCode d x → (v r s : IdValue) (e f : SpanValue) → places_range v r x ≡ true → places_range v s x ≡ true
    → span_of (vertex_at d r) ≡ Some e → span_of (vertex_at d s) ≡ Some f → (r ≡ s → ⊥) → conflicts e f ≡ false
new_and_new d (edge i (contains from to)) free v r s e f at_r at_s has_r has_s apart =
    let here_r = and_both (same_id from v) (is_among r to) at_r in
    let here_s = and_both (same_id from v) (is_among s to) at_s in
    let clear = clear_of d i from to free r e here_r.1 has_r in
    beside d to r s e f clear.beside here_r.1 here_s.1 has_r has_s apart
new_and_new d (edge i (next from to)) free v r s e f at_r at_s has_r has_s apart = cc
new_and_new d (edge i (request_edge kind from to)) free v r s e f at_r at_s has_r has_s apart = cc
new_and_new d (edge i (moniker_edge from to)) free v r s e f at_r at_s has_r has_s apart = cc
new_and_new d (edge i (package_edge from to)) free v r s e f at_r at_s has_r has_s apart = cc
new_and_new d (edge i (attach from to)) free v r s e f at_r at_s has_r has_s apart = cc
new_and_new d (edge i (item t)) free v r s e f at_r at_s has_r has_s apart = cc
new_and_new d (edge i (other_edge from to)) free v r s e f at_r at_s has_r has_s apart = cc
new_and_new d (vertex i w) free v r s e f at_r at_s has_r has_s apart = cc

clear_more : (d : List ElementValue) (x : ElementValue) → Known d → Clear d → HasNoCode d x → Clear (d ++ x ∷ [])
clear_more d x known clear free v r s e f at_r at_s has_r has_s apart =
    let old_r = known_old d x known free v r at_r in
    let old_s = known_old d x known free v s at_s in
    let was_r : span_of (vertex_at d r) ≡ Some e = sym (ap span_of (kept_vertex d x r old_r.0 old_r.1)) ∙ has_r in
    let was_s : span_of (vertex_at d s) ≡ Some f = sym (ap span_of (kept_vertex d x s old_s.0 old_s.1)) ∙ has_s in
    elim (in_more d x v r at_r) [
      | inl before_r ↦ elim (in_more d x v s at_s) [
        | inl before_s ↦ clear v r s e f before_r before_s was_r was_s apart
        | inr now_s ↦ either_conflict e f ∙ new_and_old d x free v s r f e now_s before_r was_s was_r
      ]
      | inr now_r ↦ elim (in_more d x v s at_s) [
        | inl before_s ↦ new_and_old d x free v r s e f now_r before_s was_r was_s
        | inr now_s ↦ new_and_new d x free v r s e f now_r now_s was_r was_s apart
      ]
    ]

-- ---- a whole dump

both_more : (d : List ElementValue) (x : ElementValue) → HasNoCode d x → Known d × Clear d → Known (d ++ x ∷ []) × Clear (d ++ x ∷ [])
both_more d x free both = (known_more d x both.0 free, clear_more d x both.0 both.1 free)

pub each_clear : (elements : List ElementValue) → IsSound elements → Clear elements
each_clear elements h = (holds (λ d. Known d × Clear d) (λ v r at. cc, λ v r s e f at. cc) both_more elements h).1

pub nested : (elements : List ElementValue) → IsSound elements → IsNested elements
nested elements h d r s e f at_r at_s has_r has_s apart =
    let in_r = and_both (is_document (vertex_at elements d)) (placed elements d r) at_r in
    let in_s = and_both (is_document (vertex_at elements d)) (placed elements d s) at_s in
    each_clear elements h d r s e f in_r.1 in_s.1 (ap span_of has_r) (ap span_of has_s) apart
