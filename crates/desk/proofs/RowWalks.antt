-- What the rows of a dump say of a range and of bearers, and what its walks lead to.
use Rattle.std.proofs.Common.{◌≡◌, ◌≢◌, inl, inr, ◌∙◌, ◌+◌, ℕ, true, List, [], ◌∷◌, map, Ok, refl, sym, ap, subst}
use Rattle.std.specs.Prelude.{◌↔◌, Contains, Option, Some, None, is_some, option_map, option_and_then}
use Rattle.std.specs.List.{AllZip}
use Rattle.positions.specs.Position.{PositionValue}
use Rattle.lsif.specs.Element.{IdValue, range, ElementValue}
use Rattle.lsif.specs.declared.request_kind.RequestKind.{RequestKind}
use Rattle.lsif.specs.declared.request_kind.RequestKind.TheVariants as requests
use Rattle.dump.specs.declared.role.Role.{Role}
use Rattle.dump.specs.Fault.{IsFaultless}
use Rattle.dump.specs.Graph.{vertex_at}
use Rattle.dump.specs.Monikers.{MarkValue, Marks}
use Rattle.dump.specs.Places.{PlaceValue, Places}
use Rattle.dump.specs.Progress.{DumpValue, IsSound}
use Rattle.lsif.specs.RequestKinds.{follows, finds}
use Rattle.dump.specs.declared.single.SingleLabel.TheVariants.{Request}
use Rattle.dump.specs.Requests.{First, IsFirst, nobody, here, later, Pick, RangeValue, Speaks}
use Rattle.dump.specs.Walks.{HasChain, first_of_list, next_pairs, single_pairs}
use Rattle.dump.proofs.Ends.{each_ends}
use Rattle.dump.proofs.Lines.{end_vertex, one_line, vertex_line}
use Rattle.dump.proofs.OnePicks.{one_result}
use Rattle.dump.proofs.Progresses.{sound_of}
use Rattle.flatten.specs.Flat.{AreResults, IsItemRow, IsMarkRow, IsResult, ItemRowValue, ResultsValue, number_of}
use Rattle.flatten.specs.KeyTexts.{key_text}
use Rattle.flatten.proofs.KeyLemmas.{key_same}
use Rattle.flatten.proofs.NumberPairs.{number_ones}
use Rattle.machine.specs.State.{State}
use Rattle.machine.specs.Selections.{BearerFound, FindsCover, HasMark, IsRangeFound, MarkText, RangeFound}
use Rattle.machine.specs.Answers.{HasPlace, IsFound}
use Rattle.machine.specs.Joins.{IsJoined}
use Rattle.machine.specs.Reply.{FoundPlace}
use Rattle.desk.specs.Indexes.{AreFaultless}
use Rattle.desk.specs.Steps.Rows.{HasRow, IsAnsweringResult, IsPlaceOfOne, IsResultPlace, IsRowJoined, JoinedValue, PicksRow, ProjectResultValue, RowSpeaks}
use Rattle.desk.proofs.EdgeEnds.{HasEnds, HasVertexLines, bears_line, result_line}
use Rattle.streams.proofs.Members.{contains_head, contains_one, contains_tail}
use Rattle.desk.proofs.ResultKinds.{first_result}

pub some_is : {X : Type 0} (x y : X) → Some x ≡ Some y → x ≡ y
some_is x y e = cc

-- ---- results and their numbers

module _ (elements : List ElementValue) (free : IsFaultless (map Ok elements)) where
  sound : IsSound elements
  sound = sound_of elements free

  ended : HasEnds elements
  ended = end_vertex elements sound

  lined : HasVertexLines elements
  lined i v e = let l = vertex_line elements sound i v e in (l.0, l.1)

  pub one_number : (x y : IdValue) (n : ℕ) → number_of elements x ≡ Some n → number_of elements y ≡ Some n → x ≡ y
  one_number = number_ones elements (one_line elements)

  -- what has a number for a request has a first result with this number
  pub number_first : (request : RequestKind) (x : IdValue) (n : ℕ) → IsResult elements request x (Some n) → (result : IdValue) × First request elements x (Some result) × (number_of elements result ≡ Some n)
  number_first request x n (Some result, first, e) = (result, first, sym e)
  number_first request x n (None, first, e) = cc

  -- the number of a first result
  pub first_number : (request : RequestKind) (x result : IdValue) (o : Option ℕ) → IsResult elements request x o → First request elements x (Some result) → (n : ℕ) × (o ≡ Some n) × (number_of elements result ≡ Some n)
  first_number request x result o (first, is, e) f =
      let same : first ≡ Some result = one_result request elements x first (Some result) is f in
      let l = result_line request elements ended lined x result f in
      let number : number_of elements result ≡ Some (l.0 + 1) = ap (option_map (λ k. k + 1)) l.1 in
      (l.0 + 1, e ∙ ap (option_and_then (number_of elements)) same ∙ number, number)

  -- two results of a vertex are one
  pub same_result : (request : RequestKind) (x : IdValue) (o p : Option ℕ) → IsResult elements request x o → IsResult elements request x p → o ≡ p
  same_result request x o p (first, is, e) (second, has, f) = e ∙ ap (option_and_then (number_of elements)) (one_result request elements x first second is has) ∙ sym f

  -- each vertex has results
  chain_results : (x : IdValue) → HasChain (next_pairs elements) x → (results : ResultsValue) × AreResults elements x results
  chain_results x (xs, chain) = ((λ request. option_and_then (number_of elements) (first request)), λ request. (first request, (xs, chain, refl), refl))
    where
      first : RequestKind → Option IdValue
      first request = first_of_list (single_pairs (Request request) elements) xs

  pub each_results : (x : IdValue) → (results : ResultsValue) × AreResults elements x results
  each_results x = chain_results x (each_ends elements sound x)

  -- ---- places

  pub role_of_place : (in_roles : List Role) (result : IdValue) (place : PlaceValue) → Places in_roles elements result place → (role : Role) × Contains in_roles role × Places (role ∷ []) elements result place
  role_of_place in_roles result place (other, path, (r, it, at)) =
      (it.role, it.is_asked, (other, path, (r, record { id = it.id; joining = it.joining; role = it.role; is_there = it.is_there; source = it.source; has_role = it.has_role; is_asked = contains_head it.role []; target = it.target }, at)))

  pub place_of_role : (in_roles : List Role) (role : Role) (result : IdValue) (place : PlaceValue) → Contains in_roles role → Places (role ∷ []) elements result place → Places in_roles elements result place
  place_of_role in_roles role result place asked (other, path, (r, it, at)) =
      let same : role ≡ it.role = contains_one role it.role it.is_asked in
      (other, path, (r, record { id = it.id; joining = it.joining; role = it.role; is_there = it.is_there; source = it.source; has_role = it.has_role; is_asked = subst (Contains in_roles) same asked; target = it.target }, at))

  abbrev item_row : ℕ → Role → PlaceValue → ItemRowValue
  item_row n role place = record { result = n; role = role; place = place }

  pub place_item : (request : RequestKind) → request ≢ requests.Hover → (x result : IdValue) (n : ℕ) (role : Role) (place : PlaceValue) → First request elements x (Some result) → number_of elements result ≡ Some n
      → Places (role ∷ []) elements result place → IsItemRow elements (item_row n role place)
  place_item request other x result n role place first number is = record { result = result; at_line = number; is_result = first_result elements sound request other x result first; is_place = is }

  pub item_place : (result : IdValue) (n : ℕ) (role : Role) (place : PlaceValue) → number_of elements result ≡ Some n → IsItemRow elements (item_row n role place) → Places (role ∷ []) elements result place
  item_place result n role place number row = subst (λ (r : IdValue). Places (role ∷ []) elements r place) (one_number row.result result n row.at_line number) row.is_place

-- ---- a dump of a state

module _ (m : State) (free : AreFaultless m) where
  -- the places of a vertex's first result are those of the result's number
  module _ (request : RequestKind) (other : request ≢ requests.Hover) (in_roles : List Role) (project : List ℕ) (dump : DumpValue) (there : m.dump project ≡ Some dump) (x : IdValue) (n : ℕ) (is : IsResult dump.elements request x (Some n)) (place : PlaceValue) where
    abbrev project_result : ProjectResultValue
    project_result = record { project = project; number = n }

    pub place_to : IsResultPlace m in_roles project_result place → HasPlace request in_roles dump x place
    place_to (role, asked, (second, has, row)) =
        let same : second ≡ dump = some_is second dump (sym has ∙ there) in
        let its = subst (λ (d : DumpValue). IsItemRow d.elements (record { result = n; role = role; place = place })) same row in
        let f = number_first dump.elements (free project dump there) request x n is in
        (f.0, f.1, place_of_role dump.elements (free project dump there) in_roles role f.0 place asked (item_place dump.elements (free project dump there) f.0 n role place f.2 its))

    pub place_from : HasPlace request in_roles dump x place → IsResultPlace m in_roles project_result place
    place_from (result, first, at) =
        let f = first_number dump.elements (free project dump there) request x result (Some n) is first in
        let same : n ≡ f.0 = some_is n f.0 f.1 in
        let number : number_of dump.elements result ≡ Some n = f.2 ∙ ap (λ k. Some k) (sym same) in
        let r = role_of_place dump.elements (free project dump there) in_roles result place at in
        (r.0, r.1, (dump, there, place_item dump.elements (free project dump there) request other x result n r.0 place first number r.2))

  -- ---- the range and what is joined to it

  module _ (request : RequestKind) (own : List ℕ) (dump : DumpValue) (there : m.dump own ≡ Some dump) (r : RangeValue) (row : RangeFound) (has : HasRow request dump.elements r row) where
    -- a mark of the row is one of the range
    mark_to : (mark : MarkText) → HasMark m own row.line mark → (known : MarkValue) × Marks dump.elements r.id known × (known.kind ≡ mark.kind) × (key_text known.key ≡ mark.key)
    mark_to mark (second, is, told) =
        let same : second ≡ dump = some_is second dump (sym is ∙ there) in
        let its = subst (λ (d : DumpValue). IsMarkRow d.elements (record { range = row.line; kind = mark.kind; key = mark.key })) same told in
        let one = one_number dump.elements (free own dump there) its.range r.id row.line its.at_line has.1.at_line in
        (its.mark, subst (λ (y : IdValue). Marks dump.elements y its.mark) one its.marks, its.is_kind, its.is_key)

    mark_from : (known : MarkValue) → Marks dump.elements r.id known → HasMark m own row.line (record { kind = known.kind; key = key_text known.key })
    mark_from known marks = (dump, there, record { range = r.id; span = r.span; mark = known; at_line = has.1.at_line; is_range = has.0; marks = marks; is_kind = refl; is_key = refl })

    pub speaks_to : RowSpeaks m request own row → Speaks request dump.elements r.id
    speaks_to (inl some) = inl (by (row.result) refl some)
      where
        by : (o : Option ℕ) → row.result ≡ o → is_some o ≡ true → (result : IdValue) × First request dump.elements r.id (Some result)
        by None e s = cc
        by (Some n) e s = let f = number_first dump.elements (free own dump there) request r.id n (subst (IsResult dump.elements request r.id) e (has.1.result)) in (f.0, f.1)
    speaks_to (inr (text, (mark, marked, follow, key))) = let k = mark_to mark marked in inr (k.0, k.1, ap (follows request) k.2 ∙ follow)

    pub speaks_from : Speaks request dump.elements r.id → RowSpeaks m request own row
    speaks_from (inl (result, first)) = let f = first_number dump.elements (free own dump there) request r.id result (row.result) (has.1.result) first in inl (ap is_some f.1)
    speaks_from (inr (known, marks, follow)) = inr (key_text known.key, (record { kind = known.kind; key = key_text known.key }, mark_from known marks, follow, refl))

    -- a bearer of one of the keys is joined, and has its results
    pub joined_to : (j : JoinedValue) → IsRowJoined m request own row j
        → (second : DumpValue) × (y : IdValue) × IsJoined m request own dump r.id j.project second y × (number_of second.elements y ≡ Some j.line) × IsResult second.elements request y (Some j.number)
    joined_to j (text, (mark, marked, follow, key), (bearer, (second, has_dump, told), fits)) =
        let k = mark_to mark marked in
        let is : m.dump j.project ≡ Some second = ap m.dump (sym fits.its_project) ∙ has_dump in (
          second,
          told.vertex,
          record {
            elsewhere = subst (λ (p : List ℕ). p ≢ own) fits.its_project fits.elsewhere;
            is_there = is;
            here = k.0;
            there = told.mark;
            here_marked = k.1;
            there_marked = told.bears;
            kinds = (ap (follows request) k.2 ∙ follow, ap (finds request) told.is_kind ∙ fits.finds);
            same_moniker = key_same k.0.key told.mark.key (k.3 ∙ key ∙ sym told.is_key);
          },
          told.at_line ∙ ap (λ k. Some k) fits.its_line,
          subst (IsResult second.elements request told.vertex) fits.its_result (told.are_results request),
        )

    pub joined_from : (project : List ℕ) (n : ℕ) (second : DumpValue) (y : IdValue) → IsJoined m request own dump r.id project second y → IsResult second.elements request y (Some n)
        → (line : ℕ) × (number_of second.elements y ≡ Some line) × IsRowJoined m request own row (record { project = project; line = line; number = n })
    joined_from project n second y j is =
        let sure = free project second j.is_there in
        let ended = end_vertex second.elements (sound_of second.elements sure) in
        let l = bears_line second.elements ended (vertex_line second.elements (sound_of second.elements sure)) y j.there j.there_marked in
        let number : number_of second.elements y ≡ Some (l.0 + 1) = ap (option_map (λ k. k + 1)) l.1 in
        let results = each_results second.elements sure y in
        let text = key_text j.here.key in
        let bearer : BearerFound = record { project = project; line = l.0 + 1; kind = j.there.kind; results = results.0 } in (
          l.0 + 1,
          number,
          (
            text,
            (record { kind = j.here.kind; key = text }, mark_from j.here j.here_marked, j.kinds.0, refl),
            (
              bearer,
              (second, j.is_there, record { vertex = y; mark = j.there; at_line = number; bears = j.there_marked; is_kind = refl; is_key = ap key_text (sym j.same_moniker); are_results = results.1 }),
              record {
                elsewhere = j.elsewhere;
                finds = j.kinds.1;
                its_project = refl;
                its_line = refl;
                its_result = same_result second.elements sure request y (results.0 request) (Some n) (results.1 request) is;
              },
            ),
          ),
        )

    -- the places of the project_results are those that are found
    module _ (other : request ≢ requests.Hover) (in_roles : List Role) (found : FoundPlace) where
      pub results_to : IsPlaceOfOne m in_roles (IsAnsweringResult m request own row) found → IsFound m request in_roles own dump r.id found
      results_to (t, inl (mine, number), (same, place)) =
          let at : m.dump t.project ≡ Some dump = ap m.dump mine ∙ there in
          let is : IsResult dump.elements request r.id (Some t.number) = subst (IsResult dump.elements request r.id) number (has.1.result) in
          inl (sym same ∙ mine, place_to request other in_roles t.project dump at r.id t.number is found.place place)
      results_to (t, inr (j, known, is), (same, place)) =
          let h = joined_to j known in
          let project : j.project ≡ t.project = ap (λ (u : ProjectResultValue). u.project) is in
          let its = subst (λ (u : ProjectResultValue). IsResultPlace m in_roles u found.place) (sym is) place in
          let p = place_to request other in_roles j.project h.0 h.2.is_there h.1 j.number h.4 found.place its in
          inr (h.0, h.1, subst (λ (q : List ℕ). IsJoined m request own dump r.id q h.0 h.1) (project ∙ same) h.2, p)

      pub results_from : IsFound m request in_roles own dump r.id found → IsPlaceOfOne m in_roles (IsAnsweringResult m request own row) found
      results_from (inl (mine, h)) =
          let f = first_number dump.elements (free own dump there) request r.id h.0 (row.result) (has.1.result) h.1 in
          let is : IsResult dump.elements request r.id (Some f.0) = subst (IsResult dump.elements request r.id) f.1 (has.1.result) in
          (record { project = own; number = f.0 }, inl (refl, f.1), (sym mine, place_from request other in_roles own dump there r.id f.0 is found.place h))
      results_from (inr (second, y, j, h)) =
          let sure = free found.project second j.is_there in
          let results = each_results second.elements sure y in
          let f = first_number second.elements sure request y h.0 (results.0 request) (results.1 request) h.1 in
          let is : IsResult second.elements request y (Some f.0) = subst (IsResult second.elements request y) f.1 (results.1 request) in
          let b = joined_from found.project f.0 second y j is in
          (record { project = found.project; number = f.0 }, inr (record { project = found.project; line = b.0; number = f.0 }, b.2, refl), (refl, place_from request other in_roles found.project second j.is_there y f.0 is found.place h))

      pub results_found : IsPlaceOfOne m in_roles (IsAnsweringResult m request own row) found ↔ IsFound m request in_roles own dump r.id found
      results_found = (results_to, results_from)

  -- ---- the range that is picked

  module _ (request : RequestKind) (own : List ℕ) (dump : DumpValue) (there : m.dump own ≡ Some dump) where
    -- the first row that has an answer is that of the first range that does
    abbrev IsSame : Option RangeValue → Option RangeFound → Type 0
    IsSame (Some r) (Some row) = HasRow request dump.elements r row
    IsSame None None = Unit {0}
    IsSame (Some r) None = ⊥
    IsSame None (Some row) = ⊥

    first_rows : (ranges : List RangeValue) (rows : List RangeFound) (o : Option RangeFound) → AllZip (IsRangeFound request dump.elements) ranges rows → ((r : RangeValue) → Contains ranges r → vertex_at dump.elements r.id ≡ Some (range r.span))
        → IsFirst (RowSpeaks m request own) rows o → (p : Option RangeValue) × IsFirst (λ (r : RangeValue). Speaks request dump.elements r.id) ranges p × IsSame p o
    first_rows [] [] o all are nobody = (None, nobody, tt)
    first_rows [] (row ∷ rows) o all are first = absurd all
    first_rows (r ∷ ranges) [] o all are first = absurd all
    first_rows (r ∷ ranges) (row ∷ rows) o all are (here speaks) =
        let has : HasRow request dump.elements r row = (are r (contains_head r ranges), all.0) in
        (Some r, here (speaks_to request own dump there r row has speaks), has)
    first_rows (r ∷ ranges) (row ∷ rows) o all are (later silent first) =
        let has : HasRow request dump.elements r row = (are r (contains_head r ranges), all.0) in
        let rest = first_rows ranges rows o all.1 (λ s at. are s (contains_tail r ranges s at)) first in
        (rest.0, later (λ s. silent (speaks_from request own dump there r row has s)) rest.1, rest.2)

    picked_by : (uri : List ℕ) (at : PositionValue) (o : Option RangeFound) (p : Option RangeValue) → Pick request dump.elements uri at p → IsSame p o → PicksRow dump request uri at o
    picked_by uri at None None pick same = pick
    picked_by uri at (Some row) (Some r) pick same = (r, pick, same)
    picked_by uri at None (Some r) pick same = absurd same
    picked_by uri at (Some row) None pick same = absurd same

    pub picked_row : (uri : List ℕ) (at : PositionValue) (rows : List RangeFound) (o : Option RangeFound) → FindsCover request dump.elements uri at rows → IsFirst (RowSpeaks m request own) rows o → PicksRow dump request uri at o
    picked_row uri at rows o (ranges, cover, all) first =
        let f = first_rows ranges rows o all (λ r at. ((cover.each r).0 at).0.span) first in
        picked_by uri at o f.0 (ranges, cover, f.1) f.2
