-- What rows say of a hover query, and what the walks of dumps lead to.
use Rattle.std.proofs.Common.{◌≡◌, ◌≢◌, inl, inr, ◌∙◌, ◌+◌, ◌<◌, ◌≤◌, ℕ, List, map, Ok, refl, sym, ap, subst, arith}
use Rattle.std.specs.Prelude.{Option, Some, None}
use Rattle.std.specs.Cmp.{ranks}
use Rattle.std.specs.Ordering.{MatchOrdering, nat_cmp, ordering_then}
use Rattle.std.specs.declared.cmp.Ordering.{Ordering}
use Rattle.std.specs.declared.cmp.Ordering.TheVariants.{Less, Equal, Greater}
use Rattle.lsif.specs.Element.{IdValue, VertexValue, hover_result, ElementValue}
use Rattle.lsif.specs.declared.request_kind.RequestKind.TheVariants.{Hover}
use Rattle.dump.specs.Fault.{IsFaultless}
use Rattle.dump.specs.Graph.{line_of, vertex_at}
use Rattle.dump.specs.Monikers.{MarkValue, Bears, moniker_pairs_of}
use Rattle.dump.specs.Progress.{DumpValue}
use Rattle.dump.specs.Requests.{First, RangeValue}
use Rattle.dump.proofs.Lines.{end_vertex, vertex_line}
use Rattle.dump.proofs.OwnPlaces.{first_contents}
use Rattle.dump.proofs.Progresses.{sound_of}
use Rattle.flatten.specs.Flat.{IsHoverRow, IsResult}
use Rattle.flatten.proofs.NumberPairs.{number_line}
use Rattle.machine.specs.State.{State}
use Rattle.machine.specs.Projects.{text_cmp}
use Rattle.machine.specs.Selections.{FindsHover, HasHover, RangeFound}
use Rattle.machine.specs.Answers.{HasContents, HasJoinedContents, HoversAt, own, joined, bare, IsAtOrBefore}
use Rattle.desk.specs.Steps.RowHovers.{HasContentsOf, IsLeast, RowHovers, joined_cmp}
use Rattle.desk.specs.Indexes.{AreFaultless}
use Rattle.desk.specs.Steps.Rows.{HasRow, IsRowJoined, JoinedValue}
use Rattle.desk.proofs.EdgeEnds.{first_line, moniker_ends}
use Rattle.streams.proofs.Members.{flat_of}
use Rattle.desk.proofs.RowWalks.{each_results, first_number, joined_from, joined_to, number_first, one_number, some_is}

-- ---- a vertex's first hover result

-- a vertex whose hover has no number has no hover
bare_result : (elements : List ElementValue) → IsFaultless (map Ok elements) → (x : IdValue) → IsResult elements Hover x None → First Hover elements x None
bare_result elements free x (None, first, e) = first
bare_result elements free x (Some result, first, e) =
    let f = first_number elements free Hover x result None (Some result, first, e) first in
    let no : ◌≡◌ {A = Option ℕ} None (Some f.0) = f.1 in
    cc

module _ (m : State) (free : AreFaultless m) (project : List ℕ) (dump : DumpValue) (there : m.dump project ≡ Some dump) (x : IdValue) (n : ℕ) (is : IsResult dump.elements Hover x (Some n)) where
  sure : IsFaultless (map Ok dump.elements)
  sure = free project dump there

  -- the contents that are found by the number are those of the result
  hover_to : (contents : List ℕ) → HasHover m project n contents → HasContents dump x contents
  hover_to contents (second, has, told) =
      let same : second ≡ dump = some_is second dump (sym has ∙ there) in
      let row = subst (λ (d : DumpValue). IsHoverRow d.elements (record { result = n; contents = contents })) same told in
      let f = number_first dump.elements sure Hover x n is in
      let one : row.result ≡ f.0 = one_number dump.elements sure row.result f.0 n row.at_line f.2 in
      (f.0, f.1, subst (λ (i : IdValue). vertex_at dump.elements i ≡ Some (hover_result contents)) one row.is_hover)

  hover_there : (contents : List ℕ) × HasHover m project n contents
  hover_there =
      let f = number_first dump.elements sure Hover x n is in
      let c = first_contents dump.elements (sound_of dump.elements sure) x f.0 f.1 in
      (c.0, (dump, there, record { result = f.0; at_line = f.2; is_hover = c.1 }))

  pub hover_found : (o : Option (List ℕ)) → FindsHover m project n o → (contents : List ℕ) × (o ≡ Some contents) × HasContents dump x contents
  hover_found (Some contents) found = (contents, refl, hover_to contents found)
  hover_found None none = let h = hover_there in absurd (none h.0 h.1)

-- ---- orders

greater_of : (x y : ℕ) → y < x → nat_cmp x y ≡ Greater
greater_of x y lt = by (nat_cmp x y) refl
  where
    by : (o : Ordering) → nat_cmp x y ≡ o → nat_cmp x y ≡ Greater
    by Less e = let less : x < y = subst (λ o. MatchOrdering o (x < y) (x ≡ y) (y < x)) e (ranks x y) in absurd (omega (arith, less, lt))
    by Equal e = let same : x ≡ y = subst (λ o. MatchOrdering o (x < y) (x ≡ y) (y < x)) e (ranks x y) in absurd (omega (arith, same, lt))
    by Greater e = e

below_of : (x y : ℕ) → nat_cmp x y ≡ Greater → y < x
below_of x y e = subst (λ o. MatchOrdering o (x < y) (x ≡ y) (y < x)) e (ranks x y)

-- ---- what is joined

module _ (m : State) (free : AreFaultless m) (own_name : List ℕ) (dump : DumpValue) (there : m.dump own_name ≡ Some dump) (r : RangeValue) (row : RangeFound) (has : HasRow Hover dump.elements r row) where
  -- a vertex that has a mark is one
  bearer_vertex : (elements : List ElementValue) → IsFaultless (map Ok elements) → (y : IdValue) (mark : MarkValue) → Bears elements y mark → (v : VertexValue) × (vertex_at elements y ≡ Some v)
  bearer_vertex elements sure y mark (bound, near, at, path, is) =
      let f = flat_of moniker_pairs_of elements (y, bound) at in
      end_vertex elements (sound_of elements sure) f.0 f.1 y (moniker_ends f.0 y bound f.2).0

  -- the joined vertex of a row, with its contents
  row_contents : (j : JoinedValue) → IsRowJoined m Hover own_name row j → (o : Option (List ℕ)) → FindsHover m j.project j.number o
      → (contents : List ℕ) × (line : ℕ) × (o ≡ Some contents) × (line + 1 ≡ j.line) × HasJoinedContents m own_name dump r.id j.project line contents
  row_contents j known o found =
      let h = joined_to m free Hover own_name dump there r row has j known in
      let second = h.0 in
      let y = h.1 in
      let sure = free j.project second h.2.is_there in
      let v = bearer_vertex second.elements sure y h.2.there h.2.there_marked in
      let l = vertex_line second.elements (sound_of second.elements sure) y v.0 v.1 in
      let n = number_line (line_of second.elements y) j.line h.3 in
      let same : l.0 ≡ n.0 = some_is l.0 n.0 (sym l.1 ∙ n.1) in
      let c = hover_found m free j.project second h.2.is_there y j.number h.4 o found in
      (c.0, l.0, c.1, ap (λ k. k + 1) same ∙ n.2, (second, y, v.0, h.2, l.2, c.2))

  -- the row of a joined vertex that has contents
  contents_row : (p : List ℕ) (k : ℕ) (contents : List ℕ) → HasJoinedContents m own_name dump r.id p k contents → (j : JoinedValue) × IsRowJoined m Hover own_name row j × (j.project ≡ p) × (j.line ≤ k + 1)
  contents_row p k contents (second, y, v, j, at, (result, first, is)) =
      let sure = free p second j.is_there in
      let results = each_results second.elements sure y in
      let f = first_number second.elements sure Hover y result (results.0 Hover) (results.1 Hover) first in
      let b = joined_from m free Hover own_name dump there r row has p f.0 second y j (subst (IsResult second.elements Hover y) f.1 (results.1 Hover)) in
      let n = number_line (line_of second.elements y) b.0 b.1 in
      let le : n.0 ≤ k = first_line second.elements y v n.0 k at n.1 in
      (record { project = p; line = b.0; number = f.0 }, b.2, refl, omega (arith, le, n.2))

  at_or_before : (j i : JoinedValue) (line k : ℕ) (p : List ℕ) → line + 1 ≡ j.line → i.project ≡ p → i.line ≤ k + 1 → joined_cmp j i ≢ Greater → IsAtOrBefore j.project line p k
  at_or_before j i line k p is same at least e = by (text_cmp j.project p) refl
    where
      first : text_cmp j.project i.project ≡ text_cmp j.project p
      first = ap (text_cmp j.project) same

      by : (o : Ordering) → text_cmp j.project p ≡ o → ⊥
      by Less c = let no : Less ≡ Greater = sym (ap (λ x. ordering_then x (nat_cmp line k)) c) ∙ e in cc
      by Greater c = least (ap (λ x. ordering_then x (ordering_then (nat_cmp j.line i.line) (nat_cmp j.number i.number))) (first ∙ c))
      by Equal c =
          let lt : k < line = below_of line k (sym (ap (λ x. ordering_then x (nat_cmp line k)) c) ∙ e) in
          let more : nat_cmp j.line i.line ≡ Greater = greater_of j.line i.line (omega (arith, lt, is, at)) in
          least (ap (λ x. ordering_then x (ordering_then (nat_cmp j.line i.line) (nat_cmp j.number i.number))) (first ∙ c) ∙ ap (λ x. ordering_then x (nat_cmp j.number i.number)) more)

  joined_hovers : (least : Option JoinedValue) (o : Option (List ℕ)) → First Hover dump.elements r.id None → IsLeast (IsRowJoined m Hover own_name row) least → HasContentsOf m least o → HoversAt m own_name dump r.id o
  joined_hovers None o none nobody is =
      subst (HoversAt m own_name dump r.id) (sym is) (bare none (λ p k contents h. let j = contents_row p k contents h in nobody j.0 j.1))
  joined_hovers (Some j) o none (known, least) found =
      let c = row_contents j known o found in
      subst (HoversAt m own_name dump r.id) (sym c.2)
      (joined j.project c.1 none c.4 (λ p k others h. let i = contents_row p k others h in at_or_before j i.0 c.1 k p c.3 i.2 i.3 (least i.0 i.1)))

  pub hovers_row : (o : Option (List ℕ)) → RowHovers m own_name row o → HoversAt m own_name dump r.id o
  hovers_row o (inl (n, is, found)) =
      let c = hover_found m free own_name dump there r.id n (subst (IsResult dump.elements Hover r.id) is (has.1.result)) o found in
      subst (HoversAt m own_name dump r.id) (sym c.1) (own c.2)
  hovers_row o (inr (none, (least, is, found))) =
      joined_hovers least o (bare_result dump.elements (free own_name dump there) r.id (subst (IsResult dump.elements Hover r.id) none (has.1.result))) is found
