-- The places and the contents that a range and the vertices joined to it have.
use Rattle.std.proofs.Common.{◌≡◌, ◌≢◌, ◌∙◌, inl, inr, ⊎_elim, ◌||◌, ℕ, true, List, [], ◌∷◌, map, refl, sym, ap, subst, slice_get}
use Rattle.std.specs.Prelude.{Contains, Option, Some, None, Ok, is_some}
use Rattle.std.specs.Cmp.{IsTotalOrder, then_total, on_total, nat_cmp_total}
use Rattle.std.specs.Cmp.Lexicographic.{on_texts}
use Rattle.std.specs.Ordering.{nat_cmp, ordering_reverse, ordering_then}
use Rattle.std.specs.declared.cmp.Ordering.{Ordering}
use Rattle.std.specs.declared.cmp.Ordering.TheVariants.{Less, Equal, Greater}
use Rattle.lsif.specs.Element.{IdValue, PackageValue, VertexValue, vertex}
use Rattle.lsif.specs.declared.request_kind.RequestKind.{RequestKind}
use Rattle.lsif.specs.declared.request_kind.RequestKind.TheVariants as requests
use Rattle.dump.specs.declared.role.Role.{Role}
use Rattle.dump.specs.Fault.{IsFaultless}
use Rattle.dump.specs.Monikers.{Bears, MonikerKey, MarkValue, Marks, moniker_pairs}
use Rattle.dump.specs.Places.{IsListing}
use Rattle.dump.specs.Progress.{DumpValue}
use Rattle.lsif.specs.RequestKinds.{finds, follows}
use Rattle.dump.specs.Requests.{First}
use Rattle.dump.specs.Walks.{Pair}
use Rattle.dump.proofs.OnePicks.{one_result}
use Rattle.machine.specs.Projects.{text_cmp}
use Rattle.machine.specs.State.{State}
use Rattle.machine.specs.Answers.{HasContents, HasJoinedContents, HasPlace, HoversAt, own, joined, bare, IsFound, found_cmp}
use Rattle.machine.specs.Moments.{IsIndex}
use Rattle.machine.specs.Joins.{IsJoined}
use Rattle.machine.specs.Reply.{FoundPlace}
use Rattle.machine.proofs.DumpSets.{borne, has_contents, marks, sources, vertex_lines}
use Rattle.machine.proofs.EntryLists.{rises_head}
use Rattle.machine.proofs.Finite.{Decision, Finite, both, has_member, is_true, listing, of_either, of_image, of_list, of_option, of_same, of_those, of_union}
use Rattle.machine.proofs.ListedSets.{same_texts}
use Rattle.streams.proofs.Members.{contains_cases, contains_head, not_in_nil}
use Rattle.machine.proofs.OneReplies.{found_total, then_equal}
use Rattle.machine.proofs.PlaceSets.{first_places}
use Rattle.machine.proofs.Ties.{found_tie, number_tie, text_tie}

-- a text of a package, where there is one
abbrev text_in : (PackageValue → List ℕ) → Option PackageValue → List ℕ
text_in f None = []
text_in f (Some p) = f p

-- what holds where another does
also : {A B : Type 0} → (A → B) → (B → A) → Decision A → Decision B
also to from = ⊎_elim (λ a. inl (to a)) (λ other. inr (λ b. other (from b)))

same_packages : (a b : Option PackageValue) → Decision (a ≡ b)
same_packages None None = inl refl
same_packages None (Some q) = inr (λ (e : None ≡ Some q). cc)
same_packages (Some p) None = inr (λ (e : Some p ≡ None). cc)
same_packages (Some p) (Some q) =
    also (λ (e : (p.manager ≡ q.manager) × ((p.name ≡ q.name) × (p.version ≡ q.version))). λ i. Some (record { manager = e.0 i; name = e.1.0 i; version = e.1.1 i }))
    (λ (e : Some p ≡ Some q). (ap (text_in (λ (k : PackageValue). k.manager)) e, (ap (text_in (λ (k : PackageValue). k.name)) e, ap (text_in (λ (k : PackageValue). k.version)) e)))
    (both (same_texts p.manager q.manager) (both (same_texts p.name q.name) (same_texts p.version q.version)))

same_keys : (a b : MonikerKey) → Decision (a ≡ b)
same_keys a b =
    also (λ (e : (a.scheme ≡ b.scheme) × ((a.identifier ≡ b.identifier) × (a.«package» ≡ b.«package»))). λ i. record { scheme = e.0 i; identifier = e.1.0 i; «package» = e.1.1 i })
    (λ (e : a ≡ b). (ap (λ (k : MonikerKey). k.scheme) e, (ap (λ (k : MonikerKey). k.identifier) e, ap (λ (k : MonikerKey). k.«package») e)))
    (both (same_texts a.scheme b.scheme) (both (same_texts a.identifier b.identifier) (same_packages a.«package» b.«package»)))

other_text : (s t : List ℕ) → Decision (s ≢ t)
other_text s t = ⊎_elim (λ (e : s ≡ t). inr (λ other. other e)) (λ (other : s ≡ t → ⊥). inl other) (same_texts s t)

-- a vertex of another dump: its project, that dump, and its id
abbrev Other : Type 0
Other = List ℕ × DumpValue × IdValue

-- a project and a line
abbrev LineOf : Type 0
LineOf = List ℕ × ℕ

abbrev at_cmp : LineOf → LineOf → Ordering
at_cmp a b = ordering_then (text_cmp a.0 b.0) (nat_cmp a.1 b.1)

at_total : IsTotalOrder at_cmp
at_total = then_total (on_texts (λ (a : LineOf). a.0)) (on_total (λ (a : LineOf). a.1) nat_cmp_total)

at_tie : (a b : LineOf) → at_cmp a b ≡ Equal → a ≡ b
at_tie a b e =
    let tie = then_equal (text_cmp a.0 b.0) (nat_cmp a.1 b.1) e in
    let project = text_tie a.0 b.0 tie.0 in
    let line = number_tie a.1 b.1 tie.1 in
    λ i. (project i, line i)

module _ (m : State) (index : IsIndex m) (request : RequestKind) (project : List ℕ) (dump : DumpValue) (free : IsFaultless (map Ok dump.elements)) (r : IdValue) where
  -- ---- the joined vertices

  -- a mark of the range, and one of the same key that the vertex has
  abbrev MarksMeet : DumpValue → IdValue → Type 0
  MarksMeet second y =
      (mark : MarkValue) × (Marks dump.elements r mark × ((follows request mark.kind ≡ true)
      × ((found : MarkValue) × (Bears second.elements y found × ((finds request found.kind ≡ true) × (mark.key ≡ found.key))))))

  marks_meet : (second : DumpValue) (y : IdValue) → Decision (MarksMeet second y)
  marks_meet second y =
      has_member (λ mark. Marks dump.elements r mark × ((follows request mark.kind ≡ true) × ((found : MarkValue) × (Bears second.elements y found × ((finds request found.kind ≡ true) × (mark.key ≡ found.key))))))
      (of_those (Marks dump.elements r) (λ mark. (follows request mark.kind ≡ true) × ((found : MarkValue) × (Bears second.elements y found × ((finds request found.kind ≡ true) × (mark.key ≡ found.key)))))
      (marks dump.elements free r)
      (λ mark at. both (is_true (follows request mark.kind)) (has_member (λ found. Bears second.elements y found × ((finds request found.kind ≡ true) × (mark.key ≡ found.key)))
      (of_those (Bears second.elements y) (λ found. (finds request found.kind ≡ true) × (mark.key ≡ found.key)) (borne second.elements y) (λ found borne. both (is_true (finds request found.kind)) (same_keys mark.key found.key))))))

  -- an end of a `moniker` edge in another project's dump
  abbrev IsThere : Other → Type 0
  IsThere j = (j.0 ≢ project) × (m.dump j.0 ≡ Some j.1) × ((p : Pair) × Contains (moniker_pairs j.1.elements) p × (p.0 ≡ j.2))

  in_project : (name : List ℕ) → Finite (λ (j : Other). (second : DumpValue) × (m.dump name ≡ Some second) × ((y : IdValue) × ((p : Pair) × Contains (moniker_pairs second.elements) p × (p.0 ≡ y)) × ((name, second, y) ≡ j)))
  in_project name = of_union (λ second j. (y : IdValue) × ((p : Pair) × Contains (moniker_pairs second.elements) p × (p.0 ≡ y)) × ((name, second, y) ≡ j)) (λ second. m.dump name ≡ Some second) (of_option (m.dump name))
      (λ second is. of_image (λ y. (p : Pair) × Contains (moniker_pairs second.elements) p × (p.0 ≡ y)) (λ y. (name, second, y)) (sources (moniker_pairs second.elements)))

  part_of : (name : List ℕ) (second : DumpValue) → m.dump name ≡ Some second → Contains index.projects name
  part_of name second is = index.parts name (ap (λ o. is_some o || is_some (m.tags name)) is)

  there : Finite IsThere
  there = of_same
      (λ j. ((name : List ℕ) × (Contains index.projects name × (name ≢ project)) × ((second : DumpValue) × (m.dump name ≡ Some second) × ((y : IdValue) × ((p : Pair) × Contains (moniker_pairs second.elements) p × (p.0 ≡ y)) × ((name, second, y) ≡ j)))))
      IsThere
      (λ j. (
        λ (name, at, (second, is, (y, ends, same))). subst IsThere same (at.1, is, ends),
        λ h. (j.0, (part_of j.0 j.1 h.1, h.0), (j.1, h.1, (j.2, h.2, refl))),
      ))
      (of_union (λ name (j : Other). (second : DumpValue) × (m.dump name ≡ Some second) × ((y : IdValue) × ((p : Pair) × Contains (moniker_pairs second.elements) p × (p.0 ≡ y)) × ((name, second, y) ≡ j)))
      (λ name. Contains index.projects name × (name ≢ project))
      (of_those (Contains index.projects) (λ name. name ≢ project) (of_list index.projects) (λ name at. other_text name project)) (λ name at. in_project name))

  abbrev Joined : Other → Type 0
  Joined j = IsJoined m request project dump r j.0 j.1 j.2

  pub joined_others : Finite Joined
  joined_others = of_same (λ j. IsThere j × MarksMeet j.1 j.2) Joined
      (λ j. (
        λ (at, (mark, (has, (asked, (found, (bears, (sought, same))))))). record {
          elsewhere = at.0;
          is_there = at.1;
          here = mark;
          there = found;
          here_marked = has;
          there_marked = bears;
          kinds = (asked, sought);
          same_moniker = same;
        },
        λ h. ((h.elsewhere, h.is_there, ((j.2, h.there_marked.0), h.there_marked.2, refl)), (h.here, (h.here_marked, (h.kinds.0, (h.there, (h.there_marked, (h.kinds.1, h.same_moniker))))))),
      ))
      (of_those IsThere (λ j. MarksMeet j.1 j.2) there (λ j at. marks_meet j.1 j.2))

  faultless : (j : Other) → Joined j → IsFaultless (map Ok j.1.elements)
  faultless j h = index.dumps j.0 j.1 h.is_there

  -- ---- places

  found_places : (in_roles : List Role) → Finite (IsFound m request in_roles project dump r)
  found_places in_roles = of_either
      (λ found. (found.project ≡ project) × HasPlace request in_roles dump r found.place)
      (λ found. (second : DumpValue) × (y : IdValue) × IsJoined m request project dump r found.project second y × HasPlace request in_roles second y found.place)
      (of_same (λ (found : FoundPlace). (place : _) × HasPlace request in_roles dump r place × (record { project = project; place = place } ≡ found)) (λ found. (found.project ≡ project) × HasPlace request in_roles dump r found.place)
      (λ found. (
        λ (place, has, same). subst (λ (f : FoundPlace). (f.project ≡ project) × HasPlace request in_roles dump r f.place) same (refl, has),
        λ h. (found.place, h.1, λ i. record { project = sym h.0 i; place = found.place }),
      ))
      (of_image (HasPlace request in_roles dump r) (λ place. record { project = project; place = place }) (first_places request in_roles dump free r)))
      (of_same
      (λ (found : FoundPlace). (j : Other) × Joined j × ((place : _) × HasPlace request in_roles j.1 j.2 place × (record { project = j.0; place = place } ≡ found)))
      (λ found. (second : DumpValue) × (y : IdValue) × IsJoined m request project dump r found.project second y × HasPlace request in_roles second y found.place)
      (λ found. (
        λ (j, is, (place, has, same)). subst (λ (f : FoundPlace). (second : DumpValue) × (y : IdValue) × IsJoined m request project dump r f.project second y × HasPlace request in_roles second y f.place) same (j.1, j.2, is, has),
        λ (second, y, is, has). ((found.project, second, y), is, (found.place, has, refl)),
      ))
      (of_union (λ (j : Other) (found : FoundPlace). (place : _) × HasPlace request in_roles j.1 j.2 place × (record { project = j.0; place = place } ≡ found)) Joined joined_others
      (λ j is. of_image (HasPlace request in_roles j.1 j.2) (λ place. record { project = j.0; place = place }) (first_places request in_roles j.1 (faultless j is) j.2))))

  pub found_listing : (in_roles : List Role) → (places : List FoundPlace) × IsListing found_cmp (IsFound m request in_roles project dump r) places
  found_listing in_roles = listing found_cmp found_total (IsFound m request in_roles project dump r) (λ a b is also e. found_tie a b e) (found_places in_roles)

-- ---- hover

module _ (m : State) (index : IsIndex m) (project : List ℕ) (dump : DumpValue) (free : IsFaultless (map Ok dump.elements)) (r : IdValue) where
  none_some : {X : Type 0} (x : X) → ◌≡◌ {A = Option X} None (Some x) → ⊥
  none_some x e = cc

  decide_contents : (second : DumpValue) → IsFaultless (map Ok second.elements) → (y : IdValue) → Decision ((contents : List ℕ) × HasContents second y contents)
  decide_contents second sound y = ⊎_elim
      (λ (h : (contents : List ℕ) × HasContents second y contents). inl h)
      (λ none. inr (λ h. none_some h.1.0 (one_result requests.Hover second.elements y None (Some h.1.0) none h.1.1)))
      (has_contents second.elements sound y)

  -- a line of a project has joined contents
  abbrev HasAt : LineOf → Type 0
  HasAt a = (contents : List ℕ) × HasJoinedContents m project dump r a.0 a.1 contents

  abbrev Of : Other → LineOf → Type 0
  Of j a = ((contents : List ℕ) × HasContents j.1 j.2 contents) × ((k : ℕ) × ((v : VertexValue) × (slice_get j.1.elements k ≡ Some (vertex j.2 v))) × ((j.0, k) ≡ a))

  of_other : (j : Other) → IsFaultless (map Ok j.1.elements) → Finite (Of j)
  of_other j sound = of_same (λ a. ((k : ℕ) × ((v : VertexValue) × (slice_get j.1.elements k ≡ Some (vertex j.2 v))) × ((j.0, k) ≡ a)) × ((contents : List ℕ) × HasContents j.1 j.2 contents)) (Of j)
      (λ a. (λ h. (h.1, h.0), λ h. (h.1, h.0)))
      (of_those (λ a. (k : ℕ) × ((v : VertexValue) × (slice_get j.1.elements k ≡ Some (vertex j.2 v))) × ((j.0, k) ≡ a)) (λ a. (contents : List ℕ) × HasContents j.1 j.2 contents)
      (of_image (λ k. (v : VertexValue) × (slice_get j.1.elements k ≡ Some (vertex j.2 v))) (λ k. (j.0, k)) (vertex_lines j.1.elements j.2)) (λ a at. decide_contents j.1 sound j.2))

  lines : Finite HasAt
  lines = of_same (λ a. (j : Other) × IsJoined m requests.Hover project dump r j.0 j.1 j.2 × Of j a) HasAt
      (λ a. (
        λ (j, is, (has, (k, at, same))). subst HasAt same (has.0, (j.1, j.2, at.0, is, at.1, has.1)),
        λ (contents, (second, y, v, is, at, has)). ((a.0, second, y), is, ((contents, has), (a.1, (v, at), refl))),
      ))
      (of_union Of (λ j. IsJoined m requests.Hover project dump r j.0 j.1 j.2) (joined_others m index requests.Hover project dump free r) (λ j is. of_other j (index.dumps j.0 j.1 is.is_there)))

  line_listing : (found : List LineOf) × IsListing at_cmp HasAt found
  line_listing = listing at_cmp at_total HasAt (λ a b is also e. at_tie a b e) lines

  same_at : (a b : LineOf) → a ≡ b → at_cmp a b ≢ Greater
  same_at a b e h = by (at_cmp b b) (at_total.antisymm b b) (subst (λ c. at_cmp c b ≡ Greater) e h)
    where
      by : (o : Ordering) → o ≡ ordering_reverse o → o ≡ Greater → ⊥
      by Less f g = cc
      by Equal f g = cc
      by Greater f g = cc

  less_at : (a b : LineOf) → at_cmp a b ≡ Less → at_cmp a b ≢ Greater
  less_at a b e h = let no : Less ≡ Greater = sym e ∙ h in cc

  from_lines : First requests.Hover dump.elements r None → (found : List LineOf) → IsListing at_cmp HasAt found → (contents : Option (List ℕ)) × HoversAt m project dump r contents
  from_lines none [] l = (None, bare none (λ p k contents h. not_in_nil (p, k) ((l.each (p, k)).1 (contents, h))))
  from_lines none (a ∷ found) l =
      let has = (l.each a).0 (contains_head a found) in (
        Some has.0,
        joined a.0 a.1 none has.1 (λ p k others h. ⊎_elim
            (λ (e : a ≡ (p, k)). same_at a (p, k) e)
            (λ (t : Contains found (p, k)). less_at a (p, k) (rises_head at_cmp a found l.rises (p, k) t))
            (contains_cases a found (p, k) ((l.each (p, k)).1 (others, h)))),
      )

  pub has_hover : (contents : Option (List ℕ)) × HoversAt m project dump r contents
  has_hover = ⊎_elim
      (λ (h : (contents : List ℕ) × HasContents dump r contents). (Some h.0, own h.1))
      (λ none. from_lines none line_listing.0 line_listing.1)
      (has_contents dump.elements free r)
