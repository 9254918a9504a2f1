-- The marks that vertices have, by numbers and by ids.
use Rattle.std.proofs.Common.{◌≡◌, ◌⊎◌, inl, inr, ⊎_elim, ◌∙◌, ℕ, ◌+◌, ◌==◌, ◌≤◌, Bool, true, false, List, [], ◌∷◌, ◌++◌, length, map, filter, get_or, reverse, refl, sym, ap, subst, arith}
use Rattle.std.specs.Prelude.{◌↔◌, ◌||◌, Contains, Option, Some, None, Ok, option_map, slice_get, if◌then◌else◌, IsPermutation}
use Rattle.std.specs.List.{All, list_any}
use Rattle.std.proofs.lemmas.List.Sorted.{Contains-permutation, IsPermutation-sym}
use Rattle.positions.specs.Span.{SpanValue}
use Rattle.lsif.specs.Element.{IdValue, MonikerValue, PackageValue, VertexValue, meta_data, project, document, range, result_set, request_result, hover_result, moniker, package_information, event, other_vertex, contains, next, request_edge, moniker_edge, package_edge, attach, item, other_edge, ElementValue, vertex, edge, element_id}
use Rattle.dump.specs.Fault.{IsFaultless}
use Rattle.dump.specs.Graph.{vertex_at, line_of}
use Rattle.dump.specs.Monikers.{MarkValue, Bears, attach_pairs, attach_pairs_of, mark_of, mark_with, moniker_pairs, moniker_pairs_of, package_of}
use Rattle.dump.specs.Places.{IsListing}
use Rattle.dump.specs.Walks.{Pair, Path, IsChain, ends, links, next_pairs}
use Rattle.flatten.specs.Flat.{BearerRowValue, IsBearerRow, IsMarkRow, MarkRowValue, AreResults, bearer_cmp, mark_cmp, number_of}
use Rattle.flatten.specs.KeyTexts.{key_text, moniker_key}
use Rattle.flatten.specs.Steps.Borne.{IsBorne, IsBorneBy, MarkText, mark_text, text_of}
use Rattle.flatten.specs.Steps.Chains.{first_by, is_bearing, is_source, own_bearer}
use Rattle.std.specs.Option.{option_or}
use Rattle.flatten.specs.Steps.Marks as steps
use Rattle.flatten.specs.Steps.Marks.{AreBorne, IsBearerFrom, IsBorneMark, IsBorneRow, IsMarkAlong, IsMarkOfNumber, IsMarkOfOne, IsMarkOfRange, IsMarkOfVertex, IsNextBearer, bearer_mark, marks_in, marks_of}
use Rattle.flatten.specs.Steps.Numbers.{both_numbers, pairs_of}
use Rattle.flatten.specs.Steps.Tables.{Adds, OfOne}
use Rattle.std.proofs.lemmas.List.{append_assoc, map-append, reverse-append, reverse-reverse}
use Rattle.std.proofs.lemmas.List.Elements.{Contains-append_right}
use Rattle.flatten.proofs.ChainWalks.{back_push, one_chain, some_member}
use Rattle.flatten.proofs.Closures.{wider}
use Rattle.streams.proofs.Bools.{eq_of}
use Rattle.streams.proofs.Members.{contains_cases, contains_head, contains_map, contains_one, contains_tail, filter_keeps, filter_source, flat_of, flat_from, map_source, not_in_nil, one_contains}
use Rattle.flatten.proofs.Listing.{adds_are, adds_list, keyed_listing, permuted}
use Rattle.flatten.proofs.NumberPairs.{AreOnes, HasEnds, HasVertexNumbers, are_numbers, attach_ends, both_of, have_numbers, moniker_ends, path_on, path_to}
use Rattle.flatten.proofs.RangeRows.{AreFirsts, results_one}
use Rattle.flatten.proofs.Tables.{table_from, table_to}

-- ---- the monikers that vertices have

some_pair : (from to x y : IdValue) → ◌≡◌ {A = Pair} (from, to) (x, y) → (from ≡ x) × (to ≡ y)
some_pair from to x y e = (ap (λ (p : Pair). p.0) e, ap (λ (p : Pair). p.1) e)

module _ (d : List ElementValue) (ones : AreOnes d) (has : HasEnds d) (lined : HasVertexNumbers d) (attached : List (ℕ × ℕ))
    (to : (q : ℕ × ℕ) → Contains attached q → Contains (pairs_of attach_pairs_of d) q) (from : (q : ℕ × ℕ) → Contains (pairs_of attach_pairs_of d) q → Contains attached q) where
  borne_by : (x : ElementValue) (p : ℕ × ℕ) → Contains d x → IsBorneBy d attached x p → IsBorne d p
  borne_by (edge i (moniker_edge a b)) p here (m, at, bound, path) =
      let n = path_on d (attach_pairs d) (pairs_of attach_pairs_of d) (are_numbers attach_pairs_of d) ones b m p.1 bound (wider attached (pairs_of attach_pairs_of d) to m p.1 path) in
      record { vertex = a; bound = b; near = n.0; at_vertex = at; is_bound = flat_from moniker_pairs_of d (edge i (moniker_edge a b)) (a, b) here (contains_head (a, b) []); is_near = n.2; at_near = n.1 }
  borne_by (edge i (contains a b)) p here h = absurd h
  borne_by (edge i (next a b)) p here h = absurd h
  borne_by (edge i (request_edge kind a b)) p here h = absurd h
  borne_by (edge i (package_edge a b)) p here h = absurd h
  borne_by (edge i (attach a b)) p here h = absurd h
  borne_by (edge i (item e)) p here h = absurd h
  borne_by (edge i (other_edge a b)) p here h = absurd h
  borne_by (vertex i v) p here h = absurd h

  by_edge : (x : ElementValue) (a b : IdValue) (p : ℕ × ℕ) (m : ℕ) → Contains (moniker_pairs_of x) (a, b) → number_of d a ≡ Some p.0 → number_of d b ≡ Some m → Path attached m p.1 → IsBorneBy d attached x p
  by_edge (edge i (moniker_edge c e)) a b p m at f g path =
      let s = some_pair c e a b (contains_one {X = Pair} (c, e) (a, b) at) in
      (m, ap (number_of d) s.0 ∙ f, ap (number_of d) s.1 ∙ g, path)
  by_edge (edge i (contains c e)) a b p m at f g path = absurd (not_in_nil {X = Pair} (a, b) at)
  by_edge (edge i (next c e)) a b p m at f g path = absurd (not_in_nil {X = Pair} (a, b) at)
  by_edge (edge i (request_edge kind c e)) a b p m at f g path = absurd (not_in_nil {X = Pair} (a, b) at)
  by_edge (edge i (package_edge c e)) a b p m at f g path = absurd (not_in_nil {X = Pair} (a, b) at)
  by_edge (edge i (attach c e)) a b p m at f g path = absurd (not_in_nil {X = Pair} (a, b) at)
  by_edge (edge i (item e)) a b p m at f g path = absurd (not_in_nil {X = Pair} (a, b) at)
  by_edge (edge i (other_edge c e)) a b p m at f g path = absurd (not_in_nil {X = Pair} (a, b) at)
  by_edge (vertex i v) a b p m at f g path = absurd (not_in_nil {X = Pair} (a, b) at)

  pub borne_are : (p : ℕ × ℕ) → OfOne (IsBorneBy d attached) d p ↔ IsBorne d p
  borne_are p = (λ o. borne_by o.0 p o.1 o.2, back)
    where
      back : IsBorne d p → OfOne (IsBorneBy d attached) d p
      back h =
          let f = flat_of moniker_pairs_of d (h.vertex, h.bound) h.is_bound in
          let both = have_numbers moniker_pairs_of d moniker_ends has lined h.vertex h.bound h.is_bound in
          let m = both.1.0 in
          let path = path_to d (attach_pairs d) (pairs_of attach_pairs_of d) (are_numbers attach_pairs_of d) (have_numbers attach_pairs_of d attach_ends has lined) h.bound h.near m both.1.1 h.is_near in
          let e : ◌≡◌ {A = Option ℕ} (Some path.0) (Some p.1) = sym path.1 ∙ h.at_near in
          let same : path.0 ≡ p.1 = cc in
          (f.0, f.1, by_edge f.0 h.vertex h.bound p m f.2 h.at_vertex both.1.1 (wider (pairs_of attach_pairs_of d) attached from m p.1 (subst (Path (pairs_of attach_pairs_of d) m) same path.2)))

-- the same from the pairs in order, and put in order
pub borne_listed : (d : List ElementValue) → AreOnes d → HasEnds d → HasVertexNumbers d → (attached pairs sorted : List (ℕ × ℕ)) → IsPermutation (pairs_of attach_pairs_of d) attached → Adds [] (OfOne (IsBorneBy d attached) d) pairs → IsPermutation pairs sorted → AreBorne d sorted
borne_listed d ones has lined attached pairs sorted moved added moved_on = permuted (IsBorne d) pairs sorted moved_on each
  where
    are : (p : ℕ × ℕ) → OfOne (IsBorneBy d attached) d p ↔ IsBorne d p
    are = borne_are d ones has lined attached (λ q at. Contains-permutation attached (pairs_of attach_pairs_of d) q (IsPermutation-sym (pairs_of attach_pairs_of d) attached moved) at) (λ q at. Contains-permutation (pairs_of attach_pairs_of d) attached q moved at)

    each : (p : ℕ × ℕ) → Contains pairs p ↔ IsBorne d p
    each p = let a = adds_are (OfOne (IsBorneBy d attached) d) pairs added p in (λ at. (are p).0 (a.0 at), λ h. a.1 ((are p).1 h))

-- the monikers near the one that an edge leads to
pub borne_adds : (d : List ElementValue) (attached old new : List (ℕ × ℕ)) (near : List ℕ) (i from to : IdValue) (v m : ℕ) → both_numbers (number_of d from) (number_of d to) ≡ Some (v, m) → ((y : ℕ) → Contains near y ↔ Path attached m y)
    → new ≡ old ++ map (λ n. (v, n)) near → Adds old (IsBorneBy d attached (edge i (moniker_edge from to))) new
borne_adds d attached old new near i from to v m both all grown = adds_list old (map pair near) (IsBorneBy d attached (edge i (moniker_edge from to))) new each grown
  where
    pair : ℕ → ℕ × ℕ
    pair n = (v, n)

    ends_are : (number_of d from ≡ Some v) × (number_of d to ≡ Some m)
    ends_are = both_of (number_of d from) (number_of d to) v m both

    each : (p : ℕ × ℕ) → Contains (map pair near) p ↔ IsBorneBy d attached (edge i (moniker_edge from to)) p
    each p = (go, back)
      where
        go : Contains (map pair near) p → IsBorneBy d attached (edge i (moniker_edge from to)) p
        go at =
            let s = map_source pair near p at in
            (m, ends_are.0 ∙ ap (λ (q : ℕ × ℕ). Some q.0) s.2, ends_are.1, subst (Path attached m) (ap (λ (q : ℕ × ℕ). q.1) s.2) ((all s.0).0 s.1))

        back : IsBorneBy d attached (edge i (moniker_edge from to)) p → Contains (map pair near) p
        back (k, f, g, path) =
            let e : ◌≡◌ {A = Option ℕ} (Some k) (Some m) = sym g ∙ ends_are.1 in
            let h : ◌≡◌ {A = Option ℕ} (Some v) (Some p.0) = sym ends_are.0 ∙ f in
            let same : k ≡ m = cc in
            let first : v ≡ p.0 = cc in
            subst (Contains (map pair near)) (λ j. (first j, p.1)) (contains_map pair near p.1 ((all p.1).1 (subst (λ z. Path attached z p.1) same path)))

-- ---- the row of a mark

one_mark : (number : ℕ) (o : Option MarkText) (row : MarkRowValue) → Contains (steps.mark_of number o) row → (m : MarkText) × (o ≡ Some m) × (row.range ≡ number) × (m.kind ≡ row.kind) × (m.key ≡ row.key)
one_mark number None row at = absurd (not_in_nil row at)
one_mark number (Some m) row at =
    let this : MarkRowValue = record { range = number; kind = m.kind; key = m.key } in
    let same : this ≡ row = contains_one this row at in
    (m, refl, sym (ap (λ (r : MarkRowValue). r.range) same), ap (λ (r : MarkRowValue). r.kind) same, ap (λ (r : MarkRowValue). r.key) same)

mark_one : (number : ℕ) (o : Option MarkText) (row : MarkRowValue) (m : MarkText) → o ≡ Some m → row.range ≡ number → m.kind ≡ row.kind → m.key ≡ row.key → Contains (steps.mark_of number o) row
mark_one number o row m e n k t =
    let this : MarkRowValue = record { range = number; kind = m.kind; key = m.key } in
    let same : this ≡ row = λ i. record { range = sym n i; kind = k i; key = t i } in
    subst (λ p. Contains (steps.mark_of number p) row) (sym e) (one_contains this row same)

-- the mark of a moniker, and the text of it
abbrev the_mark : Option PackageValue → MonikerValue → MarkValue
the_mark p m = record { kind = m.kind; key = moniker_key m p }

marked : (p : Option PackageValue) (o : Option VertexValue) (mark : MarkValue) → mark_with p o ≡ Some mark → (m : MonikerValue) × (o ≡ Some (moniker m)) × (the_mark p m ≡ mark)
marked p None mark e = cc
marked p (Some (moniker m)) mark e = let same : the_mark p m ≡ mark = cc in (m, refl, same)
marked p (Some (document u)) mark e = cc
marked p (Some (meta_data b)) mark e = cc
marked p (Some project) mark e = cc
marked p (Some (range s)) mark e = cc
marked p (Some result_set) mark e = cc
marked p (Some (request_result kind)) mark e = cc
marked p (Some (hover_result t)) mark e = cc
marked p (Some (package_information q)) mark e = cc
marked p (Some (event v)) mark e = cc
marked p (Some other_vertex) mark e = cc

says_mark : (d : List ElementValue) (e : ElementValue) (m : MarkText) → mark_text d e ≡ Some m → (i : IdValue) × (v : MonikerValue) × (e ≡ vertex i (moniker v)) × (text_of d i v ≡ m)
says_mark d (vertex i (moniker v)) m h = let same : text_of d i v ≡ m = cc in (i, v, refl, same)
says_mark d (vertex i (document u)) m h = cc
says_mark d (vertex i (meta_data b)) m h = cc
says_mark d (vertex i project) m h = cc
says_mark d (vertex i (range s)) m h = cc
says_mark d (vertex i result_set) m h = cc
says_mark d (vertex i (request_result kind)) m h = cc
says_mark d (vertex i (hover_result t)) m h = cc
says_mark d (vertex i (package_information q)) m h = cc
says_mark d (vertex i (event v)) m h = cc
says_mark d (vertex i other_vertex) m h = cc
says_mark d (edge i e) m h = cc

-- a mark that the vertex has, as the row of a number
abbrev pub IsRowFor : List ElementValue → ℕ → IdValue → MarkRowValue → Type 0
IsRowFor d number x row = (mark : MarkValue) × Bears d x mark × (row.range ≡ number) × (mark.kind ≡ row.kind) × (key_text mark.key ≡ row.key)

module _ (d : List ElementValue) (free : IsFaultless (map Ok d)) (vertices : (i : IdValue) (v : VertexValue) → vertex_at d i ≡ Some v ↔ Contains d (vertex i v)) (ones : AreOnes d)
    (there : (i : IdValue) (v : VertexValue) → vertex_at d i ≡ Some v → (k : ℕ) × (line_of d i ≡ Some k) × (slice_get d k ≡ Some (vertex i v)))
    (borne : List (ℕ × ℕ)) (are : AreBorne d borne) where
  lined : HasVertexNumbers d
  lined i v e = let t = there i v e in (t.0 + 1, ap (option_map (λ k. k + 1)) t.1)

  -- the mark of a moniker at its number
  mark_to : (n : IdValue) (k : ℕ) (m : MarkText) → number_of d n ≡ Some k → get_or (marks_in d) k None ≡ Some m → (mark : MarkValue) × (mark_of d n ≡ Some mark) × (m.kind ≡ mark.kind) × (m.key ≡ key_text mark.key)
  mark_to n k m at h =
      let t = table_to (mark_text d) d free k m h in
      let s = says_mark d t.0 m t.3 in
      let same : s.0 ≡ n = ones s.0 n k (subst (λ e. number_of d (element_id e) ≡ Some k) s.2 t.2) at in
      let is : vertex_at d s.0 ≡ Some (moniker s.1) = (vertices s.0 (moniker s.1)).1 (subst (Contains d) s.2 t.1) in
      let mark = the_mark (package_of d s.0) s.1 in
      (mark, ap (mark_of d) (sym same) ∙ ap (mark_with (package_of d s.0)) is, sym (ap (λ (x : MarkText). x.kind) s.3), sym (ap (λ (x : MarkText). x.key) s.3))

  mark_from : (n : IdValue) (k : ℕ) (mark : MarkValue) → number_of d n ≡ Some k → mark_of d n ≡ Some mark → (m : MarkText) × (get_or (marks_in d) k None ≡ Some m) × (m.kind ≡ mark.kind) × (m.key ≡ key_text mark.key)
  mark_from n k mark at h =
      let s = marked (package_of d n) (vertex_at d n) mark h in
      let m = text_of d n s.0 in
      (m, table_from (mark_text d) d there n (moniker s.0) k s.1 at, ap (λ (x : MarkValue). x.kind) s.2, ap (λ (x : MarkValue). key_text x.key) s.2)

  number_to : (number bearer : ℕ) (x : IdValue) (row : MarkRowValue) → number_of d x ≡ Some bearer → IsMarkOfNumber borne (marks_in d) number bearer row → IsRowFor d number x row
  number_to number bearer x row at (k, held, here) =
      let b = (are (bearer, k)).0 held in
      let o = one_mark number (get_or (marks_in d) k None) row here in
      let m = mark_to b.near k o.0 b.at_near o.1 in
      let same : b.vertex ≡ x = ones b.vertex x bearer b.at_vertex at in
      (m.0, (b.bound, b.near, subst (λ z. Contains (moniker_pairs d) (z, b.bound)) same b.is_bound, b.is_near, m.1), o.2, sym m.2 ∙ o.3, sym m.3 ∙ o.4)

  number_from : (number bearer : ℕ) (x : IdValue) (row : MarkRowValue) → number_of d x ≡ Some bearer → IsRowFor d number x row → IsMarkOfNumber borne (marks_in d) number bearer row
  number_from number bearer x row at (mark, (bound, near, is_bound, is_near, is_mark), is_number, kind, key) =
      let s = marked (package_of d near) (vertex_at d near) mark is_mark in
      let k = lined near (moniker s.0) s.1 in
      let m = mark_from near k.0 mark k.1 is_mark in (
        k.0,
        (are (bearer, k.0)).1 (record { vertex = x; bound = bound; near = near; at_vertex = at; is_bound = is_bound; is_near = is_near; at_near = k.1 }),
        mark_one number (get_or (marks_in d) k.0 None) row m.0 m.1 is_number (m.2 ∙ kind) (m.3 ∙ key),
      )

  -- a vertex that has a mark has a number
  bearer_number : (x : IdValue) (mark : MarkValue) → HasEnds d → Bears d x mark → (n : ℕ) × (number_of d x ≡ Some n)
  bearer_number x mark has (bound, near, is_bound, is_near, is_mark) = (have_numbers moniker_pairs_of d moniker_ends has lined x bound is_bound).0

  -- ---- the rows of ranges

  range_to : (x : ElementValue) (row : MarkRowValue) → Contains d x → IsMarkOfRange d borne (marks_in d) x row → IsMarkRow d row
  range_to (vertex i (range span)) row here (number, at, (xs, chain, (y, among, (bearer, its, h)))) =
      let r = number_to number bearer y row its h in
      record { range = i; span = span; mark = r.0; at_line = at ∙ ap (λ n. Some n) (sym r.2); is_range = (vertices i (range span)).1 here; marks = (xs, y, chain, among, r.1); is_kind = r.3; is_key = r.4 }
  range_to (vertex i (document u)) row here h = absurd h
  range_to (vertex i (meta_data b)) row here h = absurd h
  range_to (vertex i project) row here h = absurd h
  range_to (vertex i result_set) row here h = absurd h
  range_to (vertex i (request_result kind)) row here h = absurd h
  range_to (vertex i (hover_result t)) row here h = absurd h
  range_to (vertex i (moniker m)) row here h = absurd h
  range_to (vertex i (package_information p)) row here h = absurd h
  range_to (vertex i (event v)) row here h = absurd h
  range_to (vertex i other_vertex) row here h = absurd h
  range_to (edge i e) row here h = absurd h

  pub range_marks : HasEnds d → (row : MarkRowValue) → OfOne (IsMarkOfRange d borne (marks_in d)) d row ↔ IsMarkRow d row
  range_marks has row = (λ o. range_to o.0 row o.1 o.2, back)
    where
      back : IsMarkRow d row → OfOne (IsMarkOfRange d borne (marks_in d)) d row
      back h =
          let xs = h.marks.0 in
          let y = h.marks.1 in
          let n = bearer_number y h.mark has h.marks.4 in
          (vertex h.range (range h.span), (vertices h.range (range h.span)).0 h.is_range, (row.range, h.at_line, (xs, h.marks.2, (y, h.marks.3, (n.0, n.1, number_from row.range n.0 y row n.1 (h.mark, h.marks.4, refl, h.is_kind, h.is_key))))))

  -- where no vertex has a moniker no range has a mark
  pub no_marks : HasEnds d → borne ≡ [] → (row : MarkRowValue) → IsMarkRow d row → ⊥
  no_marks has none row h =
      let n = bearer_number h.marks.1 h.mark has h.marks.4 in
      let m = number_from row.range n.0 h.marks.1 row n.1 (h.mark, h.marks.4, refl, h.is_kind, h.is_key) in
      not_in_nil (n.0, m.0) (subst (λ l. Contains l (n.0, m.0)) none m.1)

  -- ---- the marks that vertices have themselves

  pub borne_rows : HasEnds d → (row : MarkRowValue) → IsBorneMark borne (marks_in d) row ↔ IsBorneRow d row
  borne_rows has row = (to, back)
    where
      to : IsBorneMark borne (marks_in d) row → IsBorneRow d row
      to (p, held, here) =
          let b = (are p).0 held in
          let r = number_to p.0 p.0 b.vertex row b.at_vertex (p.1, held, here) in
          record { vertex = b.vertex; mark = r.0; at_line = b.at_vertex ∙ ap (λ n. Some n) (sym r.2); bears = r.1; is_kind = r.3; is_key = r.4 }

      back : IsBorneRow d row → IsBorneMark borne (marks_in d) row
      back h =
          let m = number_from row.range row.range h.vertex row h.at_line (h.mark, h.bears, refl, h.is_kind, h.is_key) in
          ((row.range, m.0), m.1, m.2)

-- ---- the rows of bearers

module _ (d : List ElementValue) (ones : AreOnes d) (firsts : AreFirsts d) where
  bearer_one : (r s : BearerRowValue) → IsBearerRow d r → IsBearerRow d s → bearer_mark r ≡ bearer_mark s → r ≡ s
  bearer_one r s f g same =
      let line : r.line ≡ s.line = ap (λ (m : MarkRowValue). m.range) same in
      let kind : r.kind ≡ s.kind = ap (λ (m : MarkRowValue). m.kind) same in
      let key : r.key ≡ s.key = ap (λ (m : MarkRowValue). m.key) same in
      let who : g.vertex ≡ f.vertex = ones g.vertex f.vertex s.line g.at_line (f.at_line ∙ ap (λ n. Some n) line) in
      let results = results_one d firsts f.vertex r.results s.results f.are_results (subst (λ x. AreResults d x s.results) who g.are_results) in
      λ i. record { line = line i; key = key i; kind = kind i; results = results i }

  borne_of : (r : BearerRowValue) → IsBearerRow d r → IsBorneRow d (bearer_mark r)
  borne_of r h = record { vertex = h.vertex; mark = h.mark; at_line = h.at_line; bears = h.bears; is_kind = h.is_kind; is_key = h.is_key }

  pub bearer_listing : (rows : List BearerRowValue) (marks : List MarkRowValue) → map bearer_mark rows ≡ marks → IsListing mark_cmp (IsBorneRow d) marks → All (IsBearerRow d) rows → IsListing bearer_cmp (IsBearerRow d) rows
  bearer_listing rows marks same listed all = keyed_listing bearer_mark mark_cmp (IsBearerRow d) (IsBorneRow d) rows (subst (IsListing mark_cmp (IsBorneRow d)) (sym same) listed) all borne_of bearer_one

map_reverse : {X Y : Type 0} (f : X → Y) (xs : List X) → map f (reverse xs) ≡ reverse (map f xs)
map_reverse f [] = refl
map_reverse f (x ∷ xs) = ap (map f) (reverse-append (x ∷ []) xs) ∙ map-append f (reverse xs) (x ∷ []) ∙ ap (λ l. l ++ f x ∷ []) (map_reverse f xs) ∙ sym (reverse-append (f x ∷ []) (map f xs))

-- what is left of a listing, of which the last comes first
module _ {R : Type 0} (f : R → MarkRowValue) where
  last_first : (left rest : List R) (m : R) → left ≡ rest ++ m ∷ [] → reverse (map f left) ≡ f m ∷ reverse (map f rest)
  last_first left rest m is = ap (λ l. reverse (map f l)) is ∙ ap reverse (map-append f rest (m ∷ [])) ∙ back_push (map f rest) (f m)

  pub all_left : (xs : List R) → reverse (map f (reverse xs)) ≡ map f xs
  all_left xs = ap reverse (map_reverse f xs) ∙ reverse-reverse (map f xs)

  pub next_is : (P : MarkRowValue → Type 0) (done : List MarkRowValue) (left rest : List R) (m : R) → left ≡ rest ++ m ∷ [] → IsListing mark_cmp P (done ++ reverse (map f left)) → P (f m)
  next_is P done left rest m is listed = (listed.each (f m)).0 (Contains-append_right done (reverse (map f left)) (f m) (subst (λ ys. Contains ys (f m)) (sym (last_first left rest m is)) (contains_head (f m) (reverse (map f rest)))))

  pub one_less : (done more : List MarkRowValue) (left rest : List R) (m : R) → left ≡ rest ++ m ∷ [] → more ≡ done ++ f m ∷ [] → more ++ reverse (map f rest) ≡ done ++ reverse (map f left)
  one_less done more left rest m is grown = ap (λ xs. xs ++ reverse (map f rest)) grown ∙ append_assoc done (f m ∷ []) (reverse (map f rest)) ∙ ap (λ ys. done ++ ys) (sym (last_first left rest m is))

-- ---- the marks of one vertex

pub vertex_marks : (d : List ElementValue) (borne : List (ℕ × ℕ)) (marks : List (Option MarkText)) (number : ℕ) (x : IdValue) (n : ℕ) → number_of d x ≡ Some n
    → (row : MarkRowValue) → Contains (marks_of number marks (filter (λ (p : ℕ × ℕ). p.0 == n) borne)) row ↔ IsMarkOfVertex d borne marks number x row
vertex_marks d borne marks number x n at row = (to, back)
  where
    say : ℕ × ℕ → List MarkRowValue
    say p = steps.mark_of number (get_or marks p.1 None)

    to : Contains (marks_of number marks (filter (λ (p : ℕ × ℕ). p.0 == n) borne)) row → IsMarkOfVertex d borne marks number x row
    to here =
        let f = flat_of say (filter (λ (p : ℕ × ℕ). p.0 == n) borne) row here in
        let s = filter_source (λ (p : ℕ × ℕ). p.0 == n) borne f.0 f.1 in
        let same : f.0.0 ≡ n = eq_of f.0.0 n s.1 in
        (n, at, (f.0.1, subst (λ z. Contains borne (z, f.0.1)) same s.0, f.2))

    back : IsMarkOfVertex d borne marks number x row → Contains (marks_of number marks (filter (λ (p : ℕ × ℕ). p.0 == n) borne)) row
    back (m, f, (k, held, here)) =
        let e : ◌≡◌ {A = Option ℕ} (Some m) (Some n) = sym f ∙ at in
        let same : m ≡ n = cc in
        flat_from say (filter (λ (p : ℕ × ℕ). p.0 == n) borne) (n, k) row (filter_keeps (λ (p : ℕ × ℕ). p.0 == n) borne (n, k) (subst (λ z. Contains borne (z, k)) same held) (grind arith)) here

-- the marks of the range that an element is
pub marks_of_range : (d : List ElementValue) (borne : List (ℕ × ℕ)) (marks : List (Option MarkText)) (i : IdValue) (span : SpanValue) (number : ℕ) → number_of d i ≡ Some number
    → (row : MarkRowValue) → IsMarkAlong d borne marks number i row ↔ IsMarkOfRange d borne marks (vertex i (range span)) row
marks_of_range d borne marks i span number at row = (λ h. (number, at, h), back)
  where
    back : IsMarkOfRange d borne marks (vertex i (range span)) row → IsMarkAlong d borne marks number i row
    back (m, f, h) =
        let e : ◌≡◌ {A = Option ℕ} (Some m) (Some number) = sym f ∙ at in
        let same : m ≡ number = cc in
        subst (λ k. IsMarkAlong d borne marks k i row) same h

-- ---- along a chain from bearer to bearer

module _ (d : List ElementValue) (borne : List (ℕ × ℕ)) (marks : List (Option MarkText)) (number : ℕ) where
  abbrev pub IsOfOne : List IdValue → MarkRowValue → Type 0
  IsOfOne = IsMarkOfOne d borne marks number

  abbrev pub IsOfVertex : IdValue → MarkRowValue → Type 0
  IsOfVertex = IsMarkOfVertex d borne marks number

  any_source : (pairs : List (ℕ × ℕ)) (n m : ℕ) → Contains pairs (n, m) → list_any (λ (p : ℕ × ℕ). p.0 == n) pairs ≡ true
  any_source [] n m at = absurd (not_in_nil {X = ℕ × ℕ} (n, m) at)
  any_source (p ∷ pairs) n m at = elim (contains_cases {X = ℕ × ℕ} p pairs (n, m) at) [
    | inl same ↦ let e : p.0 ≡ n = ap (λ (q : ℕ × ℕ). q.0) same in let t : (p.0 == n) ≡ true = grind (arith, e) in rw t refl
    | inr more ↦ by (p.0 == n) (any_source pairs n m more)
  ]
    where
      by : (b : Bool) → list_any (λ (q : ℕ × ℕ). q.0 == n) pairs ≡ true → (b || list_any (λ (q : ℕ × ℕ). q.0 == n) pairs) ≡ true
      by true e = refl
      by false e = e

  -- what isn't the source of a pair has no mark
  silent : (x : IdValue) (row : MarkRowValue) → is_bearing d borne x ≡ false → IsOfVertex x row → ⊥
  silent x row off (bearer, at, (n, held, here)) =
      let t : is_bearing d borne x ≡ true = ap (is_source borne) at ∙ any_source borne bearer n held in
      let e : true ≡ false = sym t ∙ off in cc

  -- what is left of a chain where the next bearer is this, or none
  abbrev pub IsRest : Option IdValue → List IdValue → Type 0
  IsRest (Some y) rest = IsChain (next_pairs d) y rest
  IsRest None rest = rest ≡ []

  -- the chain from its first bearer on
  pub record IsFromBearer (bearer : Option IdValue) (xs : List IdValue) : Type 0 where
    pub rest : List IdValue
    pub is_rest : IsRest bearer rest
    pub shorter : length rest ≤ length xs
    pub same : (row : MarkRowValue) → IsOfOne xs row ↔ IsOfOne rest row

  of_tail : (x : IdValue) (xs : List IdValue) (row : MarkRowValue) → is_bearing d borne x ≡ false → IsOfOne (x ∷ xs) row ↔ IsOfOne xs row
  of_tail x xs row off = (
    λ (y, among, h). elim (contains_cases x xs y among) [ inl same ↦ absurd (silent x row off (subst (λ z. IsOfVertex z row) (sym same) h)) | inr more ↦ (y, more, h) ],
    λ (y, among, h). (y, contains_tail x xs y among, h),
  )

  pub from_bearer : (x : IdValue) (xs : List IdValue) → IsChain (next_pairs d) x xs → IsFromBearer (first_by (own_bearer d borne) xs) xs
  from_bearer x xs (ends e) = by (is_bearing d borne x) refl
    where
      by : (b : Bool) → is_bearing d borne x ≡ b → IsFromBearer (option_or (if b then Some x else None) None) (x ∷ [])
      by true t = record { rest = x ∷ []; is_rest = ends e; shorter = omega arith; same = λ row. (λ h. h, λ h. h) }
      by false t = record { rest = []; is_rest = refl; shorter = omega arith; same = λ row. of_tail x [] row t }
  from_bearer x xs (links {y = y} {ys = ys} e c) = by (is_bearing d borne x) refl (from_bearer y ys c)
    where
      by : (b : Bool) → is_bearing d borne x ≡ b → IsFromBearer (first_by (own_bearer d borne) ys) ys → IsFromBearer (option_or (if b then Some x else None) (first_by (own_bearer d borne) ys)) (x ∷ ys)
      by true t r = record { rest = x ∷ ys; is_rest = links e c; shorter = omega arith; same = λ row. (λ h. h, λ h. h) }
      by false t r = record {
        rest = r.rest;
        is_rest = r.is_rest;
        shorter = omega (arith, r.shorter);
        same = λ row. (λ h. ((r.same row).0 ((of_tail x ys row t).0 h)), λ h. (of_tail x ys row t).1 ((r.same row).1 h));
      }

  -- after some steps: the rows of the bearers that were passed were added
  pub record Passing (from : IdValue) (start : List MarkRowValue) (bearer : Option IdValue) (rows : List MarkRowValue) (steps : ℕ) : Type 0 where
    pub rest : List IdValue
    pub is_rest : IsRest bearer rest
    pub room : length rest + steps ≤ length d + 1
    pub passed : (row : MarkRowValue) → (Contains rows row ⊎ IsOfOne rest row) ↔ (Contains start row ⊎ IsMarkAlong d borne marks number from row)

  pub passing_first : (from : IdValue) (start : List MarkRowValue) (xs : List IdValue) → IsChain (next_pairs d) from xs → length xs ≤ length d + 1 → (bearer : Option IdValue) → bearer ≡ first_by (own_bearer d borne) xs → Passing from start bearer start 0
  passing_first from start xs chain short bearer is =
      let f = subst (λ o. IsFromBearer o xs) (sym is) (from_bearer from xs chain) in
      record {
        rest = f.rest;
        is_rest = f.is_rest;
        room = omega (arith, f.shorter, short);
        passed = λ row. (
          λ h. ⊎_elim (λ (s : Contains start row). inl s) (λ (o : IsOfOne f.rest row). inr (xs, chain, (f.same row).1 o)) h,
          λ h. ⊎_elim (λ (s : Contains start row). inl s) (λ (a : IsMarkAlong d borne marks number from row). inr ((f.same row).0 (subst (λ ys. IsOfOne ys row) (one_chain (next_pairs d) from a.0 xs a.1 chain) a.2))) h,
        );
      }

  pub passing_end : (from : IdValue) (start rows : List MarkRowValue) (steps : ℕ) → Passing from start None rows steps → Adds start (IsMarkAlong d borne marks number from) rows
  passing_end from start rows steps p row = (
    λ at. (p.passed row).0 (inl at),
    λ h. ⊎_elim (λ (a : Contains rows row). a) (λ (o : IsOfOne p.rest row). absurd (not_in_nil o.0 (subst (λ xs. Contains xs o.0) p.is_rest o.1))) ((p.passed row).1 h),
  )

  pub passing_full : (from : IdValue) (start rows : List MarkRowValue) (bearer : Option IdValue) (steps : ℕ) → length d + 1 ≤ steps → Passing from start bearer rows steps → Adds start (IsMarkAlong d borne marks number from) rows
  passing_full from start rows None steps le p = passing_end from start rows steps p
  passing_full from start rows (Some y) steps le p = absurd (omega (arith, le, p.room, some_member (next_pairs d) y p.rest p.is_rest))

  next_rest : (y : IdValue) (rest : List IdValue) → IsChain (next_pairs d) y rest → (bearer : Option IdValue) → IsNextBearer d borne y bearer → (ys : List IdValue) × (rest ≡ y ∷ ys) × IsFromBearer bearer ys
  next_rest y rest (ends e) bearer h = ([], refl, record { rest = []; is_rest = none; shorter = omega arith; same = λ row. (λ o. o, λ o. o) })
    where
      none : IsRest bearer []
      none = subst (λ o. IsRest o []) (sym (subst (λ o. IsBearerFrom d borne o bearer) e h)) refl
  next_rest y rest (links {y = z} {ys = ys} e c) bearer h =
      let f = subst (λ o. IsBearerFrom d borne o bearer) e h in
      let same : ys ≡ f.0 = one_chain (next_pairs d) z ys f.0 c f.1 in
      (ys, refl, subst (λ o. IsFromBearer o ys) (sym (f.2 ∙ ap (first_by (own_bearer d borne)) (sym same))) (from_bearer z ys c))

  pub passing_on : (from : IdValue) (start rows more : List MarkRowValue) (y : IdValue) (bearer : Option IdValue) (steps : ℕ) → Passing from start (Some y) rows steps → Adds rows (IsOfVertex y) more → IsNextBearer d borne y bearer → Passing from start bearer more (steps + 1)
  passing_on from start rows more y bearer steps p added next_is =
      let n = next_rest y p.rest p.is_rest bearer next_is in
      let f = n.2 in
      record {
        rest = f.rest;
        is_rest = f.is_rest;
        room = omega (arith, p.room, f.shorter, ap length n.1);
        passed = λ row. (
          λ h. (p.passed row).0 (⊎_elim
              (λ (a : Contains more row). ⊎_elim (λ (r : Contains rows row). inl r) (λ (v : IsOfVertex y row). inr (subst (λ xs. IsOfOne xs row) (sym n.1) (y, contains_head y n.0, v))) ((added row).0 a))
              (λ (o : IsOfOne f.rest row). let t = (f.same row).1 o in inr (subst (λ xs. IsOfOne xs row) (sym n.1) (t.0, contains_tail y n.0 t.0 t.1, t.2)))
              h),
          λ h. ⊎_elim
              (λ (r : Contains rows row). inl ((added row).1 (inl r)))
              (λ (o : IsOfOne p.rest row).
              let t = subst (λ xs. IsOfOne xs row) n.1 o in
              elim (contains_cases y n.0 t.0 t.1) [
                | inl same ↦ inl ((added row).1 (inr (subst (λ z. IsOfVertex z row) (sym same) t.2)))
                | inr among ↦ inr ((f.same row).0 (t.0, among, t.2))
              ])
              ((p.passed row).1 h),
        );
      }
