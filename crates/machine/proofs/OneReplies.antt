-- From each state a query has one reply at most.
use Rattle.std.proofs.Common.{◌≡◌, ◌≢◌, ◌∙◌, ℕ, Bool, true, false, List, refl, sym, ap, subst}
use Rattle.std.specs.Prelude.{Option, Some, None, slice_get}
use Rattle.std.specs.Cmp.{IsTotalOrder, then_total, on_total, nat_cmp_total, unsigned_ties}
use Rattle.std.specs.Cmp.Lexicographic.{on_texts, texts_ties}
use Rattle.std.specs.Ordering.{is_eq, nat_cmp, ordering_then, ordering_reverse}
use Rattle.std.specs.declared.cmp.Ordering.{Ordering}
use Rattle.std.specs.declared.cmp.Ordering.TheVariants.{Less, Equal, Greater}
use Rattle.positions.specs.Position.{PositionValue}
use Rattle.lsif.specs.Element.{IdValue, hover_result, ElementValue, vertex, edge}
use Rattle.lsif.specs.RequestKinds.{gives_places}
use Rattle.lsif.specs.declared.request_kind.RequestKind.{RequestKind}
use Rattle.lsif.specs.declared.request_kind.RequestKind.TheVariants as requests
use Rattle.dump.specs.declared.role.Role.{Role}
use Rattle.dump.specs.Graph.{vertex_at}
use Rattle.dump.specs.Places.{IsListing, HasDocument}
use Rattle.dump.specs.Progress.{DumpValue}
use Rattle.dump.specs.Requests.{First, Pick, RangeValue}
use Rattle.dump.proofs.OnePicks.{one_listing, place_total}
use Rattle.machine.specs.Answers.{AnswersKind, AnswersSo, IsFound, found_cmp, AnswersPlaces, picked, unpicked, HasContents, HasJoinedContents, IsAtOrBefore, HoversAt, own, joined, bare, AnswersHover, picked_hover, unpicked_hover, AnswersAt, no_dump, no_such_document, answered, Answers}
use Rattle.machine.specs.FoundTags.{IsTag, BeginsWith, line_cmp, name_cmp, FoundTag}
use Rattle.machine.specs.Projects.{text_cmp, IsProject, project_cmp, ProjectValue}
use Rattle.machine.specs.State.{State}
use Rattle.machine.specs.Reply.{ReplyValue, FoundPlace, places_found, hover_found, tags_found, projects_found}
use Rattle.machine.specs.Requests.{DocumentPositionValue, QueryValue, position_query, references, names, prefix, projects, profile}
use Rattle.streams.proofs.Bools.{eq_of}
use Rattle.streams.proofs.Lists.{text_eq}

-- ---- orders

pub found_total : IsTotalOrder found_cmp
found_total = then_total (on_texts (λ (f : FoundPlace). f.project)) (on_total (λ (f : FoundPlace). f.place) place_total)

pub line_total : IsTotalOrder line_cmp
line_total = then_total (on_texts (λ (f : FoundTag). f.project)) (on_total (λ (f : FoundTag). f.tag.line) nat_cmp_total)

pub name_total : IsTotalOrder name_cmp
name_total = then_total (on_texts (λ (f : FoundTag). f.tag.name)) line_total

project_total : IsTotalOrder project_cmp
project_total = on_texts (λ (p : ProjectValue). p.name)

pub then_equal : (a b : Ordering) → ordering_then a b ≡ Equal → (a ≡ Equal) × (b ≡ Equal)
then_equal Less b e = cc
then_equal Equal b e = (refl, e)
then_equal Greater b e = cc

not_after : (a b : Ordering) → a ≡ ordering_reverse b → a ≢ Greater → b ≢ Greater → a ≡ Equal
not_after Less Less e n k = cc
not_after Less Equal e n k = cc
not_after Less Greater e n k = absurd (k refl)
not_after Equal b e n k = refl
not_after Greater b e n k = absurd (n refl)

-- a project and a line
abbrev LineOf : Type 0
LineOf = List ℕ × ℕ

at_cmp : LineOf → LineOf → Ordering
at_cmp a b = ordering_then (text_cmp a.0 b.0) (nat_cmp a.1 b.1)

at_total : IsTotalOrder at_cmp
unfolding at_cmp
at_total = then_total (on_texts (λ (a : LineOf). a.0)) (on_total (λ (a : LineOf). a.1) nat_cmp_total)

one_least : (p q : List ℕ) (k l : ℕ) → IsAtOrBefore p k q l → IsAtOrBefore q l p k → (p ≡ q) × (k ≡ l)
unfolding at_cmp
one_least p q k l a b =
    let both = then_equal (text_cmp p q) (nat_cmp k l) (not_after (at_cmp (p, k) (q, l)) (at_cmp (q, l) (p, k)) (at_total.antisymm (p, k) (q, l)) a b) in
    (text_eq p q (texts_ties p q ∙ ap is_eq both.0), eq_of k l (unsigned_ties k l ∙ ap is_eq both.1))

same_some : {X : Type 0} (x y : X) → Some x ≡ Some y → x ≡ y
same_some x y e = cc

-- ---- what is taken of dumps

abbrev pub OneFirst : Type 0
OneFirst = (request : RequestKind) (elements : List ElementValue) (x : IdValue) (found other : Option IdValue) → First request elements x found → First request elements x other → found ≡ other

abbrev pub OnePick : Type 0
OnePick = (request : RequestKind) (elements : List ElementValue) (uri : List ℕ) (position : PositionValue) (picked other : Option RangeValue)
    → Pick request elements uri position picked → Pick request elements uri position other → picked ≡ other

abbrev vertex_of : ElementValue → IdValue → IdValue
vertex_of (vertex i v) other = i
vertex_of (edge i e) other = other

module _ (first : OneFirst) (pick : OnePick) where
  -- ---- places

  one_places : (m : State) (request : RequestKind) (in_roles : List Role) (target : DocumentPositionValue) (dump : DumpValue) (r s : ReplyValue)
      → AnswersPlaces m request in_roles target dump r → AnswersPlaces m request in_roles target dump s → r ≡ s
  one_places m request in_roles target dump r s (picked {places = xs} x p l) (picked {places = ys} y q k) =
      let same = same_some x y (pick request dump.elements target.uri target.position (Some x) (Some y) p q) in
      let P : RangeValue → Type 0 = λ z. IsListing found_cmp (IsFound m request in_roles target.project dump z.id) xs in
      ap places_found (one_listing found_cmp found_total (IsFound m request in_roles target.project dump y.id) xs ys (subst P same l) k)
  one_places m request in_roles target dump r s (picked x p l) (unpicked q) = let no : Some x ≡ None = pick request dump.elements target.uri target.position (Some x) None p q in cc
  one_places m request in_roles target dump r s (unpicked p) (picked y q k) = let no : Some y ≡ None = pick request dump.elements target.uri target.position (Some y) None q p in cc
  one_places m request in_roles target dump r s (unpicked p) (unpicked q) = refl

  -- ---- hover

  one_contents : (dump : DumpValue) (x : IdValue) (a b : List ℕ) → HasContents dump x a → HasContents dump x b → a ≡ b
  one_contents dump x a b (u, f, is) (v, g, says) =
      let same = same_some u v (first requests.Hover dump.elements x (Some u) (Some v) f g) in
      let both : Some (hover_result a) ≡ Some (hover_result b) = sym is ∙ ap (vertex_at dump.elements) same ∙ says in
      cc

  one_joined : (m : State) (project : List ℕ) (dump : DumpValue) (r : IdValue) (p q : List ℕ) (k l : ℕ) (a b : List ℕ)
      → HasJoinedContents m project dump r p k a → HasJoinedContents m project dump r q l b → p ≡ q → k ≡ l → a ≡ b
  one_joined m project dump r p q k l a b (second, y, v, to, at, has) (other, z, w, also, there, says) same line =
      let dumps : second ≡ other = same_some second other (sym to.is_there ∙ ap m.dump same ∙ also.is_there) in
      let elements : Some (vertex y v) ≡ Some (vertex z w) = sym at ∙ (λ i. slice_get (dumps i).elements (line i)) ∙ there in
      let vertices : y ≡ z = ap (λ x. vertex_of x y) (same_some (vertex y v) (vertex z w) elements) in
      one_contents other z a b (subst (λ x. HasContents other x a) vertices (subst (λ (d : DumpValue). HasContents d y a) dumps has)) says

  has_first : (dump : DumpValue) (x : IdValue) (a : List ℕ) → HasContents dump x a → First requests.Hover dump.elements x None → ⊥
  has_first dump x a (u, f, is) none = let no : Some u ≡ None = first requests.Hover dump.elements x (Some u) None f none in cc

  one_hover : (m : State) (project : List ℕ) (dump : DumpValue) (x : IdValue) (a b : Option (List ℕ)) → HoversAt m project dump x a → HoversAt m project dump x b → a ≡ b
  one_hover m project dump x a b (own {contents = s} h) (own {contents = t} k) = ap Some (one_contents dump x s t h k)
  one_hover m project dump x a b (own {contents = s} h) (joined p l none at least) = absurd (has_first dump x s h none)
  one_hover m project dump x a b (own {contents = s} h) (bare none nobody) = absurd (has_first dump x s h none)
  one_hover m project dump x a b (joined p l none at least) (own {contents = s} h) = absurd (has_first dump x s h none)
  one_hover m project dump x a b (joined {contents = s} p k none at least) (joined {contents = t} q l also there lowest) =
      let same = one_least p q k l (least q l t there) (lowest p k s at) in
      ap Some (one_joined m project dump x p q k l s t at there same.0 same.1)
  one_hover m project dump x a b (joined {contents = s} p k none at least) (bare also nobody) = absurd (nobody p k s at)
  one_hover m project dump x a b (bare none nobody) (own {contents = s} h) = absurd (has_first dump x s h none)
  one_hover m project dump x a b (bare none nobody) (joined {contents = s} p k also at least) = absurd (nobody p k s at)
  one_hover m project dump x a b (bare none nobody) (bare also neither) = refl

  one_hover_reply : (m : State) (target : DocumentPositionValue) (dump : DumpValue) (r s : ReplyValue) → AnswersHover m target dump r → AnswersHover m target dump s → r ≡ s
  one_hover_reply m target dump r s (picked_hover {contents = a} x p h) (picked_hover {contents = b} y q k) =
      let same = same_some x y (pick requests.Hover dump.elements target.uri target.position (Some x) (Some y) p q) in
      ap hover_found (one_hover m target.project dump y.id a b (subst (λ (z : RangeValue). HoversAt m target.project dump z.id a) same h) k)
  one_hover_reply m target dump r s (picked_hover x p h) (unpicked_hover q) = let no : Some x ≡ None = pick requests.Hover dump.elements target.uri target.position (Some x) None p q in cc
  one_hover_reply m target dump r s (unpicked_hover p) (picked_hover y q k) = let no : Some y ≡ None = pick requests.Hover dump.elements target.uri target.position (Some y) None q p in cc
  one_hover_reply m target dump r s (unpicked_hover p) (unpicked_hover q) = refl

  -- ---- positions

  one_at : (m : State) (target : DocumentPositionValue) (A : DumpValue → ReplyValue → Type 0) → ((dump : DumpValue) (r s : ReplyValue) → A dump r → A dump s → r ≡ s)
      → (r s : ReplyValue) → AnswersAt m target A r → AnswersAt m target A s → r ≡ s
  one_at m target A one r s (no_dump e) (no_dump f) = refl
  one_at m target A one r s (no_dump e) (no_such_document dump f n) = let no : None ≡ Some dump = sym e ∙ f in cc
  one_at m target A one r s (no_dump e) (answered dump f has h) = let no : None ≡ Some dump = sym e ∙ f in cc
  one_at m target A one r s (no_such_document dump e n) (no_dump f) = let no : None ≡ Some dump = sym f ∙ e in cc
  one_at m target A one r s (no_such_document dump e n) (no_such_document other f k) = refl
  one_at m target A one r s (no_such_document dump e n) (answered other f has h) =
      absurd (n (subst (λ (d : DumpValue). HasDocument d.elements target.uri) (same_some other dump (sym f ∙ e)) has))
  one_at m target A one r s (answered dump e has h) (no_dump f) = let no : None ≡ Some dump = sym f ∙ e in cc
  one_at m target A one r s (answered dump e has h) (no_such_document other f n) =
      absurd (n (subst (λ (d : DumpValue). HasDocument d.elements target.uri) (same_some dump other (sym e ∙ f)) has))
  one_at m target A one r s (answered dump e has h) (answered other f have k) =
      one other r s (subst (λ (d : DumpValue). A d r) (same_some dump other (sym e ∙ f)) h) k

  -- ---- queries

  one_kind : (m : State) (kind : RequestKind) (target : DocumentPositionValue) (dump : DumpValue) (r s : ReplyValue) → AnswersKind m kind target dump r → AnswersKind m kind target dump s → r ≡ s
  one_kind m kind target dump r s = by (gives_places kind)
    where
      by : (b : Bool) → AnswersSo b m kind target dump r → AnswersSo b m kind target dump s → r ≡ s
      by true = one_places m _ _ target dump r s
      by false = one_hover_reply m target dump r s

  pub one_reply : (m : State) (q : QueryValue) (r s : ReplyValue) → Answers m q r → Answers m q s → r ≡ s
  one_reply m (position_query kind target) r s a b = one_at m target _ (one_kind m kind target) r s a b
  one_reply m (references target declared) r s a b = one_at m target _ (one_places m _ _ target) r s a b
  one_reply m (names name asked) r s (found, l, is) (others, k, says) =
      is ∙ ap tags_found (one_listing line_cmp line_total (λ (f : FoundTag). IsTag m asked f × (f.tag.name ≡ name)) found others l k) ∙ sym says
  one_reply m (prefix start asked) r s (found, l, is) (others, k, says) =
      is ∙ ap tags_found (one_listing name_cmp name_total (λ (f : FoundTag). IsTag m asked f × BeginsWith f.tag.name start) found others l k) ∙ sym says
  one_reply m projects r s (found, l, is) (others, k, says) = is ∙ ap projects_found (one_listing project_cmp project_total (IsProject m) found others l k) ∙ sym says
  one_reply m (profile project) r s a b = a ∙ sym b
