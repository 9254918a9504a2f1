-- The spans that are kept of each document, and what a `contains` edge more makes of them.
use Rattle.std.proofs.Common.{◌≡◌, ⊎_elim, ◌∙◌, ◌&&◌, ◌||◌, ◌++◌, ◌∷◌, [], Bool, true, false, List, refl, sym, ap, ap₂, subst, append_assoc, append-nil, Option, Some, None, is_some, if◌then◌else◌}
use Rattle.std.specs.Prelude.{Contains, Vec, IsPermutation}
use Rattle.std.specs.List.{list_any, list_all, flat_map, cons_option}
use Rattle.std.proofs.lemmas.List.Sorted.{IsPermutation-refl, IsPermutation-trans, IsPermutation-append_left, list_any-IsPermutation}
use Rattle.std.specs.declared.alloc.Global.{Global}
use Rattle.positions.specs.Span.{SpanValue}
use Rattle.lsif.specs.Element.{IdValue, same_id, VertexValue, meta_data, project, document, range, result_set, request_result, hover_result, moniker, package_information, event, other_vertex, contains, next, request_edge, moniker_edge, package_edge, attach, item, other_edge, ElementValue, vertex, edge}
use Rattle.dump.specs.Graph.{vertex_at, span_of, is_among, ends}
use Rattle.dump.specs.Kinds.{is_document}
use Rattle.dump.specs.Conditions.{are_vertices, may_not_join}
use Rattle.dump.specs.Contained.{contains_range, spans_of, spans_named, spans_in, conflicts, any_conflicts, has_conflict}
use Rattle.dump.specs.Steps.Tables.{is_id, kept, IsFilled}
use Rattle.dump.specs.Contained.{contains_source}
use Rattle.dump.specs.Steps.Links.{ranges_in}
use Rattle.streams.proofs.Bools.{and_both, not_false}
use Rattle.streams.proofs.Members.{contains_head, contains_tail}
use Rattle.dump.proofs.SameIds.{same_id_eq}
use Rattle.dump.proofs.Conflicts.{conflict_of_both, has_conflict-permutation}
use Rattle.dump.proofs.Ends.{HasNoCode}
use Rattle.dump.proofs.Known.{AreEndsKnown}
use Rattle.dump.proofs.Rows.{contains_fits}
use Rattle.dump.proofs.Nests.{kept_vertex, vertex_there}

-- ---- the ranges of an element

among_by : (b : Bool) (i : IdValue) (to : List IdValue) → is_among i (if b then to else []) ≡ (b && is_among i to)
among_by true i to = refl
among_by false i to = refl

pub ranges_test : (d : List ElementValue) (x : ElementValue) (i : IdValue) → is_among i (ranges_in d x) ≡ contains_range d i x
ranges_test d (edge j (contains from to)) i = among_by (is_document (vertex_at d from)) i to
ranges_test d (edge j (next a b)) i = refl
ranges_test d (edge j (request_edge kind a b)) i = refl
ranges_test d (edge j (moniker_edge a b)) i = refl
ranges_test d (edge j (package_edge a b)) i = refl
ranges_test d (edge j (attach a b)) i = refl
ranges_test d (edge j (item a)) i = refl
ranges_test d (edge j (other_edge a bs)) i = refl
ranges_test d (vertex j v) i = refl

-- ---- no document

pub kept_nothing : (o : Option (Vec (List SpanValue) Global)) → o ≡ None → IsPermutation [] (kept o) × (has_conflict (kept o) ≡ false)
kept_nothing o e = subst (λ p. IsPermutation [] (kept p) × (has_conflict (kept p) ≡ false)) (sym e) (IsPermutation-refl [], refl)

-- ---- what is required of spans doesn't depend on their order

any_same : {X : Type 0} (p q : X → Bool) (xs : List X) → ((x : X) → p x ≡ q x) → list_any p xs ≡ list_any q xs
any_same p q [] same = refl
any_same p q (x ∷ xs) same = ap₂ (λ a b. a || b) (same x) (any_same p q xs same)

pub others_in_order : (targets others spans : List SpanValue) → IsPermutation others spans → any_conflicts targets spans ≡ any_conflicts targets others
others_in_order targets others spans p = any_same (λ s. list_any (conflicts s) spans) (λ s. list_any (conflicts s) others) targets (λ s. sym (list_any-IsPermutation (conflicts s) others spans p))

-- ---- one element more

spans_stay : (d : List ElementValue) (x : ElementValue) (is : List IdValue) → are_vertices d is ≡ true → spans_of (d ++ x ∷ []) is ≡ spans_of d is
spans_stay d x [] e = refl
spans_stay d x (i ∷ is) e =
    let both = and_both (is_some (vertex_at d i)) (are_vertices d is) e in
    let w = vertex_there (vertex_at d i) both.0 in
    ap₂ cons_option (ap span_of (kept_vertex d x i w.0 w.1)) (spans_stay d x is both.1)

named_stay : (d : List ElementValue) (x y : ElementValue) → are_vertices d (ends y) ≡ true → (v : IdValue) → spans_named (d ++ x ∷ []) v y ≡ spans_named d v y
named_stay d x (edge i (contains from to)) e v =
    ap (λ ss. if same_id from v then ss else []) (spans_stay d x to (and_both (is_some (vertex_at d from)) (are_vertices d to) e).1)
named_stay d x (edge i (next a b)) e v = refl
named_stay d x (edge i (request_edge kind a b)) e v = refl
named_stay d x (edge i (moniker_edge a b)) e v = refl
named_stay d x (edge i (package_edge a b)) e v = refl
named_stay d x (edge i (attach a b)) e v = refl
named_stay d x (edge i (item a)) e v = refl
named_stay d x (edge i (other_edge a bs)) e v = refl
named_stay d x (vertex i w) e v = refl

each_named : (d : List ElementValue) (x : ElementValue) (v : IdValue) (xs : List ElementValue) → ((y : ElementValue) → Contains xs y → are_vertices d (ends y) ≡ true) → flat_map (spans_named (d ++ x ∷ []) v) xs ≡ flat_map (spans_named d v) xs
each_named d x v [] known = refl
each_named d x v (y ∷ xs) known = ap₂ (λ a b. a ++ b) (named_stay d x y (known y (contains_head y xs)) v) (each_named d x v xs (λ z at. known z (contains_tail y xs z at)))

flat_more : {X Y : Type 0} (f : X → List Y) (xs : List X) (x : X) → flat_map f (xs ++ x ∷ []) ≡ flat_map f xs ++ f x
flat_more f [] x = append-nil (f x)
flat_more f (y ∷ xs) x = ap (λ ys. f y ++ ys) (flat_more f xs x) ∙ sym (append_assoc (f y) (flat_map f xs) (f x))

spans_more : (d : List ElementValue) (x : ElementValue) → AreEndsKnown d → are_vertices d (ends x) ≡ true → (v : IdValue) → spans_in (d ++ x ∷ []) v ≡ spans_in d v ++ spans_named d v x
spans_more d x known e v =
    flat_more (spans_named (d ++ x ∷ []) v) d x
    ∙ ap₂ (λ a b. a ++ b) (each_named d x v d known) (named_stay d x x e v)

-- documents have no span
document_spans : (d : List ElementValue) (is : List IdValue) → list_all (λ i. is_document (vertex_at d i)) is ≡ true → spans_of d is ≡ []
document_spans d [] e = refl
document_spans d (i ∷ is) e =
    let both = and_both (is_document (vertex_at d i)) (list_all (λ j. is_document (vertex_at d j)) is) e in
    ap₂ cons_option (no_span (vertex_at d i) both.0) (document_spans d is both.1)
  where
    no_span : (o : Option VertexValue) → is_document o ≡ true → span_of o ≡ None
    no_span None h = refl
    no_span (Some (document s)) h = refl
    no_span (Some (meta_data b)) h = refl
    no_span (Some project) h = refl
    no_span (Some (range s)) h = cc
    no_span (Some result_set) h = refl
    no_span (Some (request_result kind)) h = refl
    no_span (Some (hover_result s)) h = refl
    no_span (Some (moniker m)) h = refl
    no_span (Some (package_information q)) h = refl
    no_span (Some (event f)) h = refl
    no_span (Some other_vertex) h = refl

-- the ranges of a document alone have spans
target_spans : (d : List ElementValue) (i from : IdValue) (to : List IdValue) → may_not_join d (edge i (contains from to)) ≡ false
    → spans_of d to ≡ spans_of d (if is_document (vertex_at d from) then to else [])
target_spans d i from to free = ⊎_elim
    (λ (leaves : is_document (vertex_at d from) ≡ true). ap (λ b. spans_of d (if b then to else [])) (sym leaves))
    (λ (documents : list_all (λ j. is_document (vertex_at d j)) to ≡ true). by (is_document (vertex_at d from)) (document_spans d to documents))
    (contains_fits d i from to free)
  where
    by : (b : Bool) → spans_of d to ≡ [] → spans_of d to ≡ spans_of d (if b then to else [])
    by true none = refl
    by false none = none

no_conflict_by : (d : List ElementValue) (from : IdValue) (to : List IdValue) (b : Bool)
    → (b && (any_conflicts (spans_of d to) (spans_in d from) || has_conflict (spans_of d to))) ≡ false
    → (any_conflicts (spans_of d (if b then to else [])) (spans_in d from) || has_conflict (spans_of d (if b then to else []))) ≡ false
no_conflict_by d from to true e = e
no_conflict_by d from to false e = refl

module _ (d : List ElementValue) (i from : IdValue) (to : List IdValue) (free : HasNoCode d (edge i (contains from to))) (known : AreEndsKnown d) (old new : IdValue → Option (Vec (List SpanValue) Global))
    (had : (v : IdValue) → IsPermutation (spans_in d v) (kept (old v)) × (has_conflict (kept (old v)) ≡ false))
    (now : (v : IdValue) → IsFilled (is_id v (Some from)) (spans_of d (ranges_in d (edge i (contains from to)))) (old v) (new v)) where
  filled_at : (v : IdValue) (b : Bool) → same_id from v ≡ b → IsFilled b (spans_of d (ranges_in d (edge i (contains from to)))) (old v) (new v)
      → IsPermutation (spans_in d v ++ (if b then spans_of d to else [])) (kept (new v)) × (has_conflict (kept (new v)) ≡ false)
  filled_at v true same h =
      let targets = spans_of d (ranges_in d (edge i (contains from to))) in
      let all : spans_of d to ≡ targets = target_spans d i from to free.joins in
      let before = had v in
      let joined : IsPermutation (spans_in d v ++ targets) (kept (new v)) = IsPermutation-trans _ _ _ (IsPermutation-append_left targets (spans_in d v) (kept (old v)) before.0) h in
      let apart : (any_conflicts targets (spans_in d from) || has_conflict targets) ≡ false = no_conflict_by d from to (is_document (vertex_at d from)) free.conflict in
      let at_v : (any_conflicts targets (spans_in d v) || has_conflict targets) ≡ false = subst (λ w. (any_conflicts targets (spans_in d w) || has_conflict targets) ≡ false) (same_id_eq from v same) apart in
      let clear : has_conflict (spans_in d v) ≡ false = sym (has_conflict-permutation (spans_in d v) (kept (old v)) before.0) ∙ before.1 in
      (subst (λ ss. IsPermutation (spans_in d v ++ ss) (kept (new v))) (sym all) joined, conflict_of_both (spans_in d v) targets (kept (new v)) clear joined ∙ at_v)
  filled_at v false same h =
      subst (λ ss. IsPermutation ss (kept (new v)) × (has_conflict (kept (new v)) ≡ false)) (sym (append-nil (spans_in d v)))
      (subst (λ ss. IsPermutation (spans_in d v) ss × (has_conflict ss ≡ false)) (sym h) (had v))

  edge_fills : (v : IdValue) → IsPermutation (spans_in (d ++ edge i (contains from to) ∷ []) v) (kept (new v)) × (has_conflict (kept (new v)) ≡ false)
  edge_fills v =
      subst (λ ss. IsPermutation ss (kept (new v)) × (has_conflict (kept (new v)) ≡ false)) (sym (spans_more d (edge i (contains from to)) known (not_false (are_vertices d (ends (edge i (contains from to)))) free.ends) v))
      (filled_at v (same_id from v) refl (now v))

other_fills : (d : List ElementValue) (x : ElementValue) → are_vertices d (ends x) ≡ true → AreEndsKnown d → (old new : IdValue → Option (Vec (List SpanValue) Global)) → ((v : IdValue) → spans_named d v x ≡ [])
    → ((v : IdValue) → IsPermutation (spans_in d v) (kept (old v)) × (has_conflict (kept (old v)) ≡ false)) → ((v : IdValue) → kept (new v) ≡ kept (old v))
    → (v : IdValue) → IsPermutation (spans_in (d ++ x ∷ []) v) (kept (new v)) × (has_conflict (kept (new v)) ≡ false)
other_fills d x e known old new none had now v =
    subst (λ ss. IsPermutation ss (kept (new v)) × (has_conflict (kept (new v)) ≡ false)) (sym (spans_more d x known e v ∙ ap (λ ss. spans_in d v ++ ss) (none v) ∙ append-nil (spans_in d v)))
    (subst (λ ss. IsPermutation (spans_in d v) ss × (has_conflict ss ≡ false)) (sym (now v)) (had v))

pub fills : (d : List ElementValue) (x : ElementValue) → HasNoCode d x → AreEndsKnown d → (old new : IdValue → Option (Vec (List SpanValue) Global))
    → ((v : IdValue) → IsPermutation (spans_in d v) (kept (old v)) × (has_conflict (kept (old v)) ≡ false))
    → ((v : IdValue) → IsFilled (is_id v (contains_source x)) (spans_of d (ranges_in d x)) (old v) (new v))
    → (v : IdValue) → IsPermutation (spans_in (d ++ x ∷ []) v) (kept (new v)) × (has_conflict (kept (new v)) ≡ false)
fills d (edge i (contains from to)) free known old new had now v = edge_fills d i from to free known old new had now v
fills d (edge i (next a b)) free known old new had now v = other_fills d (edge i (next a b)) (not_false (are_vertices d (ends (edge i (next a b)))) free.ends) known old new (λ u. refl) had now v
fills d (edge i (request_edge kind a b)) free known old new had now v = other_fills d (edge i (request_edge kind a b)) (not_false (are_vertices d (ends (edge i (request_edge kind a b)))) free.ends) known old new (λ u. refl) had now v
fills d (edge i (moniker_edge a b)) free known old new had now v = other_fills d (edge i (moniker_edge a b)) (not_false (are_vertices d (ends (edge i (moniker_edge a b)))) free.ends) known old new (λ u. refl) had now v
fills d (edge i (package_edge a b)) free known old new had now v = other_fills d (edge i (package_edge a b)) (not_false (are_vertices d (ends (edge i (package_edge a b)))) free.ends) known old new (λ u. refl) had now v
fills d (edge i (attach a b)) free known old new had now v = other_fills d (edge i (attach a b)) (not_false (are_vertices d (ends (edge i (attach a b)))) free.ends) known old new (λ u. refl) had now v
fills d (edge i (item a)) free known old new had now v = other_fills d (edge i (item a)) (not_false (are_vertices d (ends (edge i (item a)))) free.ends) known old new (λ u. refl) had now v
fills d (edge i (other_edge a bs)) free known old new had now v = other_fills d (edge i (other_edge a bs)) (not_false (are_vertices d (ends (edge i (other_edge a bs)))) free.ends) known old new (λ u. refl) had now v
fills d (vertex i w) free known old new had now v = other_fills d (vertex i w) refl known old new (λ u. refl) had now v
