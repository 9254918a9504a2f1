-- Shortcuts along chains lead to their ends, and an edge more keeps them.
use Rattle.std.proofs.Common.{◌≡◌, ⊎_elim, inl, inr, ◌⊎◌, ◌∙◌, ◌++◌, ◌∷◌, [], ◌+◌, ◌<◌, ◌≤◌, ℕ, Bool, true, false, cond, nat_eq, List, length, length-append, get_or, set, map, find, refl, sym, ap, subst, arith, Option, Some, None, option_and_then, is_some}
use Rattle.std.specs.Prelude.{Contains}
use Rattle.std.proofs.lemmas.List.{get_or-set_other, get_or_append_left, length-set, length-map, get_or-map}
use Rattle.std.proofs.lemmas.List.Elements.{Contains-append_left, Contains-push_cases}
use Rattle.std.proofs.Math.Seq.{get_or-append_seam}
use Rattle.std.proofs.lemmas.Grind.{get_or-set_at}
use Rattle.std.proofs.lemmas.Option.{slice_get_within, slice_get-get_or, get_or_from_slice_get}
use Rattle.lsif.specs.declared.element.Element.{Element}
use Rattle.lsif.specs.Element.{IdValue, same_id, element_value, contains, next, request_edge, moniker_edge, package_edge, attach, item, other_edge, ElementValue, vertex, edge, element_id}
use Rattle.dump.specs.declared.single.SingleLabel.{SingleLabel}
use Rattle.dump.specs.declared.single.SingleLabel.TheVariants.{Next}
use Rattle.dump.specs.Steps.Chains.{index_in, Shortens, HasShortcuts, IsIndexIn, IsEnd, CanJoin}
use Rattle.dump.specs.Conditions.{are_vertices}
use Rattle.dump.specs.Graph.{element_at, vertex_of, vertex_at, ends}
use Rattle.dump.specs.Steps.Tables.{has_id}
use Rattle.dump.specs.Steps.Links.{is_single, single_target}
use Rattle.dump.specs.Progress.{IsSound}
use Rattle.dump.specs.Walks.{Pair, Path, stays, goes, first_to, reaches, IsChain, ends as chain_ends, links, same_label, next_pairs, single_of, single_in}
use Rattle.dump.proofs.Adds.{found_index, vertex_index, find_any}
use Rattle.streams.proofs.Bools.{and_both, not_false, same_bool, absurd_true}
use Rattle.streams.proofs.Members.{found_member}
use Rattle.dump.proofs.SameIds.{same_id_eq, same_id_self}
use Rattle.dump.proofs.Cells.{nothing}
use Rattle.dump.proofs.Chains.{suffix, short, no_chain}
use Rattle.dump.proofs.Ends.{Single, HasNoCode, each_ends, first_none, first_more, pairs_more, pair_of_first}
use Rattle.dump.proofs.Known.{AreEndsKnown}
use Rattle.dump.proofs.Leads.{on_chain}
use Rattle.dump.proofs.Paths.{wider, joined, path_of, reaches_of}
use Rattle.dump.proofs.FirstIndices.{position-any, position_hit, position_miss, position_kept, first_to-single}

none_some : {P : Type 0} (o : Option IdValue) (y : IdValue) → o ≡ None → o ≡ Some y → P
none_some None y e f = cc
none_some (Some x) y e f = cc

-- ---- paths of single pairs

module _ (ps : List Pair) (one : Single ps) where
  -- no path goes on from where no pair does
  no_leave : (x z : IdValue) → first_to ps x ≡ None → Path ps x z → x ≡ z
  no_leave x z none stays = refl
  no_leave x z none (goes {y = w} v path at) =
      let same = no_leave x w none path in
      none_some (first_to ps w) v (ap (first_to ps) (sym same) ∙ none) (one w v at)

  tail_or : (x y z : IdValue) → first_to ps x ≡ Some y → Path ps x z → (x ≡ z) ⊎ Path ps y z
  tail_or x y z to stays = inl refl
  tail_or x y z to (goes {y = w} v path at) = ⊎_elim
      (λ (same : x ≡ w).
      let k : Some y ≡ Some v = sym to ∙ ap (first_to ps) same ∙ one w v at in
      let there : y ≡ v = cc in
      inr (subst (Path ps y) there stays))
      (λ (rest : Path ps y w). inr (goes v rest at))
      (tail_or x y w to path)

  pub after_first : (x y z : IdValue) → first_to ps x ≡ Some y → first_to ps z ≡ None → Path ps x z → Path ps y z
  after_first x y z to none path = ⊎_elim
      (λ (same : x ≡ z). none_some (first_to ps z) y none (ap (first_to ps) (sym same) ∙ to))
      (λ (rest : Path ps y z). rest)
      (tail_or x y z to path)

  either : (x y z : IdValue) → Path ps x y → Path ps x z → Path ps y z ⊎ Path ps z y
  either x y z stays other = inl other
  either x y z (goes {y = w} v path at) other = ⊎_elim
      (λ (on : Path ps w z). ⊎_elim
      (λ (same : w ≡ z). inr (goes v (subst (Path ps z) (sym same) stays) at))
      (λ (rest : Path ps v z). inl rest)
      (tail_or w v z (one w v at) on))
      (λ (back : Path ps z w). inr (goes v back at))
      (either x w z path other)

  -- all ends of paths from a vertex are one
  one_end : (x y z : IdValue) → Path ps x y → Path ps x z → first_to ps y ≡ None → first_to ps z ≡ None → y ≡ z
  one_end x y z first second no_first no_second = ⊎_elim
      (λ (on : Path ps y z). no_leave y z no_first on)
      (λ (back : Path ps z y). sym (no_leave z y no_second back))
      (either x y z first second)

  pub end_test : (from last to : IdValue) → Path ps from last → first_to ps last ≡ None → first_to ps to ≡ None → same_id last to ≡ reaches ps from to
  end_test from last to path none free = same_bool (same_id last to) (reaches ps from to)
      (λ e. subst (λ v. reaches ps from v ≡ true) (same_id_eq last to e) (reaches_of ps from last path))
      (λ e. subst (λ v. same_id last v ≡ true) (one_end from last to path (path_of ps from to e) none free) (same_id_self last))

-- ---- a walk along shortcuts

-- what is required of a walk that has come from one index to another, in some steps
pub record Nearing (ps : List Pair) (d : List ElementValue) (from at steps : ℕ) : Type 0 where
  pub start : IdValue
  pub here : IdValue
  pub is_start : index_in d start ≡ Some from
  pub is_here : index_in d here ≡ Some at
  pub path : Path ps start here
  pub rest : List IdValue
  pub chain : IsChain ps here rest
  pub room : length rest + steps ≤ length ps + 1

pub nearing : (d : List ElementValue) (k : ℕ) → IsSound d → IsIndexIn d k → Nearing (next_pairs d) d k k 0
nearing d k sound index =
    let c = each_ends d sound index.0 in
    record { start = index.0; here = index.0; is_start = index.1; is_here = index.1; path = stays; rest = c.0; chain = c.1; room = omega (arith, short c.0 (next_pairs d) index.0 c.1) }

module _ (ps : List Pair) (one : Single ps) (d : List ElementValue) (shortcuts : List (Option ℕ)) (has : HasShortcuts ps d shortcuts) (from at steps : ℕ) (i : Nearing ps d from at steps) where
  pub nearing_end : get_or shortcuts at None ≡ None → IsEnd ps d from at
  nearing_end none = record {
    start = i.start;
    last = i.here;
    is_start = i.is_start;
    is_last = i.is_here;
    path = i.path;
    none = subst (Shortens ps d i.here) none (has.each i.here at i.is_here);
  }

  pub nearing_on : (further : ℕ) → get_or shortcuts at None ≡ Some further → Nearing ps d from further (steps + 1)
  nearing_on further is = by i.rest i.chain i.room
    where
      short_of : Shortens ps d i.here (Some further)
      short_of = subst (Shortens ps d i.here) is (has.each i.here at i.is_here)

      by : (rest : List IdValue) → IsChain ps i.here rest → length rest + steps ≤ length ps + 1 → Nearing ps d from further (steps + 1)
      by rest (chain_ends f) room = none_some (first_to ps i.here) short_of.0 f short_of.2
      by rest (links {y = w} {ys = ys} f c) room =
          let k : Some w ≡ Some short_of.0 = sym f ∙ short_of.2 in
          let same : w ≡ short_of.0 = cc in
          let c' : IsChain ps short_of.0 ys = subst (λ v. IsChain ps v ys) same c in
          let r = suffix ps short_of.0 ys short_of.1 c' (on_chain ps one short_of.0 ys short_of.1 c' short_of.3) in
          record {
            start = i.start;
            here = short_of.1;
            is_start = i.is_start;
            is_here = short_of.4;
            path = joined ps i.start i.here short_of.1 i.path (joined ps i.here short_of.0 short_of.1 (goes short_of.0 stays (pair_of_first ps i.here short_of.0 short_of.2)) short_of.3);
            rest = r.0;
            chain = r.1;
            room = omega (arith, room, r.2);
          }

  pub nearing_last : length ps ≤ steps → IsEnd ps d from at
  nearing_last all = by i.rest i.chain i.room
    where
      by : (rest : List IdValue) → IsChain ps i.here rest → length rest + steps ≤ length ps + 1 → IsEnd ps d from at
      by rest (chain_ends f) room = record { start = i.start; last = i.here; is_start = i.is_start; is_last = i.is_here; path = i.path; none = f }
      by rest (links {ys = []} f c) room = absurd (no_chain ps _ c)
      by rest (links {ys = y ∷ ys} f c) room = absurd (omega (arith, room))

-- an element's index is within the list
pub index_within : (d : List ElementValue) (i : IdValue) (k : ℕ) → index_in d i ≡ Some k → k < length d
index_within d i k e = let f = found_index d i k e in slice_get_within d k f.0 f.1

pub one_index : (d : List ElementValue) (i j : IdValue) (k : ℕ) → index_in d i ≡ Some k → index_in d j ≡ Some k → i ≡ j
one_index d i j k e g =
    let f = found_index d i k e in
    let h = found_index d j k g in
    let same : ◌≡◌ {A = Option ElementValue} (Some f.0) (Some h.0) = sym f.1 ∙ h.1 in
    let one : f.0 ≡ h.0 = cc in
    sym f.2 ∙ ap element_id one ∙ h.2

-- ---- a shortcut is set

apart_number : (k j : ℕ) → nat_eq k j ≡ false → j ≡ k → ⊥
apart_number k j e same = let h : nat_eq k j ≡ true = grind (arith, same) in let c : true ≡ false = sym h ∙ e in cc

same_number : (k j : ℕ) → nat_eq k j ≡ true → k ≡ j
same_number k j e = grind (arith, e)

-- the shortcut at an index is set, where it shortens; the others shorten too after pairs more
pub shortcut_set : (ps qs : List Pair) (d : List ElementValue) (shortcuts : List (Option ℕ)) (k : ℕ) (o : Option ℕ) (x : IdValue) → HasShortcuts ps d shortcuts → index_in d x ≡ Some k
    → Shortens qs d x o → ((i : IdValue) (p : Option ℕ) → (i ≡ x → ⊥) → Shortens ps d i p → Shortens qs d i p) → HasShortcuts qs d (set shortcuts k o)
shortcut_set ps qs d shortcuts k o x has at here others = record {
  length = length-set shortcuts k o ∙ has.length;
  each = λ i j index. by i j index (nat_eq k j) refl;
}
  where
    by : (i : IdValue) (j : ℕ) → index_in d i ≡ Some j → (b : Bool) → nat_eq k j ≡ b → Shortens qs d i (get_or (set shortcuts k o) j None)
    by i j index true same =
        let e : k ≡ j = same_number k j same in
        let inside : k < length shortcuts = omega (arith, has.length, index_within d x k at) in
        let me : x ≡ i = one_index d x i j (at ∙ ap Some e) index in
        subst (λ v. Shortens qs d v (get_or (set shortcuts k o) j None)) me
        (subst (Shortens qs d x) (sym (get_or-set_at shortcuts k j o None (sym e) inside)) here)
    by i j index false other =
        let apart : i ≡ x → ⊥ = λ me.
        let k' : Some j ≡ Some k = sym index ∙ ap (index_in d) me ∙ at in
        let e : j ≡ k = cc in
        apart_number k j other e in
        subst (Shortens qs d i) (sym (get_or-set_other shortcuts k j o None (λ e. apart_number k j other e)))
        (others i (get_or shortcuts j None) apart (has.each i j index))

module _ (ps : List Pair) (one : Single ps) (d : List ElementValue) (shortcuts : List (Option ℕ)) (has : HasShortcuts ps d shortcuts) (from at steps end_index further : ℕ) (i : Nearing ps d from at steps)
    (last : IsEnd ps d from end_index) (is : get_or shortcuts at None ≡ Some further) where
  -- the shortcut of a vertex on the way leads to the end
  pub shortened : HasShortcuts ps d (set shortcuts at (Some end_index))
  shortened =
      let short_of = subst (Shortens ps d i.here) is (has.each i.here at i.is_here) in
      let same : i.start ≡ last.start = one_index d i.start last.start from i.is_start last.is_start in
      let path : Path ps i.start last.last = subst (λ v. Path ps v last.last) (sym same) last.path in
      let on : Path ps i.here last.last = ⊎_elim
      (λ (forth : Path ps i.here last.last). forth)
      (λ (back : Path ps last.last i.here). subst (λ v. Path ps v last.last) (no_leave ps one last.last i.here last.none back) stays)
      (either ps one i.start i.here last.last i.path path) in
      shortcut_set ps ps d shortcuts at (Some end_index) i.here has i.is_here
      (short_of.0, last.last, short_of.2, after_first ps one i.here short_of.0 last.last short_of.2 last.none on, last.is_last)
      (λ j p apart h. h)

-- ---- an edge more

not_joined : (ps : List Pair) (a b i : IdValue) → (i ≡ a → ⊥) → first_to ps i ≡ None → first_to (ps ++ (a, b) ∷ []) i ≡ None
not_joined ps a b i apart none = first_none ps a b i none ∙ by (same_id a i) refl
  where
    by : (c : Bool) → same_id a i ≡ c → cond c (Some b) None ≡ None
    by true same = absurd (apart (sym (same_id_eq a i same)))
    by false other = refl

still_shortens : (ps : List Pair) (d : List ElementValue) (a b i : IdValue) (o : Option ℕ) → (i ≡ a → ⊥) → Shortens ps d i o → Shortens (ps ++ (a, b) ∷ []) d i o
still_shortens ps d a b i None apart h = not_joined ps a b i apart h
still_shortens ps d a b i (Some s) apart h =
    (h.0, h.1, first_more ps ((a, b) ∷ []) i h.0 h.2, wider ps (ps ++ (a, b) ∷ []) (λ q at. more q at) h.0 h.1 h.3, h.4)
  where
    more : (q : Pair) → Contains ps q → Contains (ps ++ (a, b) ∷ []) q
    more q at = Contains-append_left ps ((a, b) ∷ []) q at

-- an edge from the vertex at an index to that at another
pub edge_shortcuts : (ps : List Pair) (d : List ElementValue) (shortcuts : List (Option ℕ)) (from to end_index : ℕ) → HasShortcuts ps d shortcuts → CanJoin ps d from to → IsEnd ps d to end_index
    → (a b : IdValue) → index_in d a ≡ Some from → index_in d b ≡ Some to → HasShortcuts (ps ++ (a, b) ∷ []) d (set shortcuts from (Some end_index))
edge_shortcuts ps d shortcuts from to end_index has can last a b at_a at_b =
    let source : can.source ≡ a = one_index d can.source a from can.is_source at_a in
    let target : last.start ≡ b = one_index d last.start b to last.is_start at_b in
    let none : first_to ps a ≡ None = subst (λ v. first_to ps v ≡ None) source can.none in
    let joins : first_to (ps ++ (a, b) ∷ []) a ≡ Some b = first_none ps a b a none ∙ ap (λ c. cond c (Some b) None) (same_id_self a) in
    shortcut_set ps (ps ++ (a, b) ∷ []) d shortcuts from (Some end_index) a has at_a
    (b, last.last, joins, wider ps (ps ++ (a, b) ∷ []) (λ q at. Contains-append_left ps ((a, b) ∷ []) q at) b last.last (subst (λ v. Path ps v last.last) target last.path), last.is_last)
    (λ i p apart h. still_shortens ps d a b i p apart h)

-- ---- an element more

-- the source of a `next` edge is a vertex
source_known : (d : List ElementValue) (y : ElementValue) (i : IdValue) → is_single Next i y ≡ true → are_vertices d (ends y) ≡ true → is_some (vertex_at d i) ≡ true
source_known d (edge j (next a b)) i e known = subst (λ v. is_some (vertex_at d v) ≡ true) (same_id_eq a i e) (and_both (is_some (vertex_at d a)) (are_vertices d (b ∷ [])) known).0
source_known d (edge j (contains a bs)) i e known = cc
source_known d (edge j (request_edge kind a b)) i e known = cc
source_known d (edge j (moniker_edge a b)) i e known = cc
source_known d (edge j (package_edge a b)) i e known = cc
source_known d (edge j (attach a b)) i e known = cc
source_known d (edge j (item a)) i e known = cc
source_known d (edge j (other_edge a bs)) i e known = cc
source_known d (vertex j v) i e known = cc

no_vertex : {X Y : Type 0} (f : X → Option Y) (o : Option X) → is_some o ≡ false → is_some (option_and_then f o) ≡ true → ⊥
no_vertex f None e h = cc
no_vertex f (Some x) e h = cc

-- no `next` edge leaves what isn't a vertex
pub no_source : (d e : List ElementValue) → ((y : ElementValue) → Contains e y → are_vertices d (ends y) ≡ true) → (i : IdValue) → is_some (element_at d i) ≡ false → first_to (next_pairs e) i ≡ None
no_source d e known i fresh = first_to-single Next e i ∙ by (find (is_single Next i) e) refl
  where
    by : (o : Option ElementValue) → find (is_single Next i) e ≡ o → option_and_then single_target o ≡ None
    by None is = refl
    by (Some y) is =
        let f = found_member (is_single Next i) e y is in
        absurd (no_vertex vertex_of (element_at d i) fresh (source_known d y i f.1 (known y f.0)))

pub no_index : (d : List ElementValue) (i : IdValue) → index_in d i ≡ None → is_some (element_at d i) ≡ false
unfolding element_at
no_index d i e = find_any (has_id i) d ∙ sym (position-any (has_id i) d) ∙ ap is_some e

ends_known_more : (d : List ElementValue) (x : ElementValue) → HasNoCode d x → AreEndsKnown d → (y : ElementValue) → Contains (d ++ x ∷ []) y → are_vertices d (ends y) ≡ true
ends_known_more d x free known y at = ⊎_elim
    (λ (old : Contains d y). known y old)
    (λ (new : x ≡ y). subst (λ z. are_vertices d (ends z) ≡ true) new (not_false (are_vertices d (ends x)) free.ends))
    (Contains-push_cases d x y at)

shortens_more : (ps : List Pair) (d : List ElementValue) (x : ElementValue) (i : IdValue) (o : Option ℕ) → Shortens ps d i o → Shortens ps (d ++ x ∷ []) i o
shortens_more ps d x i None h = h
shortens_more ps d x i (Some s) h = (h.0, h.1, h.2, h.3, position_kept (has_id h.1) d x (ap is_some h.4) ∙ h.4)

pub shortcuts_more : (ps : List Pair) (d : List ElementValue) (x : ElementValue) (shortcuts : List (Option ℕ)) → HasNoCode d x → AreEndsKnown d → ps ≡ next_pairs (d ++ x ∷ [])
    → HasShortcuts ps d shortcuts → HasShortcuts (next_pairs (d ++ x ∷ [])) (d ++ x ∷ []) (shortcuts ++ None ∷ [])
shortcuts_more ps d x shortcuts free known same has = subst (λ qs. HasShortcuts qs (d ++ x ∷ []) (shortcuts ++ None ∷ [])) same (record {
  length = length-append shortcuts (None ∷ []) ∙ ap (λ k. k + 1) has.length ∙ sym (length-append d (x ∷ []));
  each = λ i k index. by i k index (index_in d i) refl (same_id (element_id x) i) refl;
})
  where
    none : first_to ps (element_id x) ≡ None
    none = ap (λ qs. first_to qs (element_id x)) same ∙ no_source d (d ++ x ∷ []) (ends_known_more d x free known) (element_id x) free.fresh

    by : (i : IdValue) (k : ℕ) → index_in (d ++ x ∷ []) i ≡ Some k → (o : Option ℕ) → index_in d i ≡ o → (b : Bool) → same_id (element_id x) i ≡ b → Shortens ps (d ++ x ∷ []) i (get_or (shortcuts ++ None ∷ []) k None)
    by i k index (Some j) old b is =
        let stays_at : Some j ≡ Some k = sym old ∙ sym (position_kept (has_id i) d x (ap is_some old)) ∙ index in
        let e : j ≡ k = cc in
        let inside : k < length shortcuts = omega (arith, e, has.length, index_within d i j old) in
        subst (Shortens ps (d ++ x ∷ []) i) (sym (get_or_append_left shortcuts (None ∷ []) None k inside))
        (shortens_more ps d x i (get_or shortcuts k None) (has.each i k (old ∙ ap Some e)))
    by i k index None old true is =
        let there : Some (length d) ≡ Some k = sym (position_hit (has_id i) d x is old) ∙ index in
        let e : length d ≡ k = cc in
        let blank : ◌≡◌ {A = Option ℕ} (get_or (shortcuts ++ None ∷ []) k None) None = ap (λ n. get_or (shortcuts ++ None ∷ []) n None) (sym (has.length ∙ e)) ∙ get_or-append_seam shortcuts None [] None in
        subst (Shortens ps (d ++ x ∷ []) i) (sym blank) (subst (λ v. first_to ps v ≡ None) (same_id_eq (element_id x) i is) none)
    by i k index None old false is =
        let never : ◌≡◌ {A = Option ℕ} None (Some k) = sym (position_miss (has_id i) d x is ∙ old) ∙ index in cc

pub same_pairs : (d : List ElementValue) (x : ElementValue) (ps : List Pair) → single_in Next x ≡ ps → next_pairs d ++ ps ≡ next_pairs (d ++ x ∷ [])
same_pairs d x ps e = sym (pairs_more (single_in Next) d x ∙ ap (λ qs. next_pairs d ++ qs) e)

abbrev is_next : Option (SingleLabel × Pair) → Bool
is_next None = false
is_next (Some e) = same_label e.0 Next

other_label : {m : SingleLabel} {p q : Pair} → ◌≡◌ {A = Option (SingleLabel × Pair)} (Some (m, p)) (Some (Next, q)) → same_label m Next ≡ false → ⊥
other_label e other = absurd_true (sym (ap is_next e) ∙ other)

-- the source of a `next` edge without a code has none yet
pub source_free : (d : List ElementValue) (x : ElementValue) (a b : IdValue) → HasNoCode d x → single_in Next x ≡ (a, b) ∷ [] → first_to (next_pairs d) a ≡ None
source_free d (edge j (next p q)) a b free e =
    let pair : ◌≡◌ {A = Pair} (p, q) (a, b) = ap (λ ps. first_pair ps) e in
    ap (first_to (next_pairs d)) (sym (ap (λ r. r.0) pair)) ∙ nothing (first_to (next_pairs d) p) free.single
  where
    first_pair : List Pair → Pair
    first_pair [] = (p, q)
    first_pair (r ∷ rs) = r
source_free d (edge j (contains p qs)) a b free e = cc
source_free d (edge j (request_edge kind p q)) a b free e = let none : ◌≡◌ {A = List Pair} [] ((a, b) ∷ []) = e in cc
source_free d (edge j (moniker_edge p q)) a b free e = cc
source_free d (edge j (package_edge p q)) a b free e = cc
source_free d (edge j (attach p q)) a b free e = cc
source_free d (edge j (item p)) a b free e = cc
source_free d (edge j (other_edge p qs)) a b free e = cc
source_free d (vertex j v) a b free e = cc

-- what is read at an index
pub read_at : (xs : List (Option ℕ)) (k : ℕ) (o : Option ℕ) → k < length xs → o ≡ get_or xs k o → get_or xs k None ≡ o
read_at xs k o lt e = same (sym (slice_get-get_or xs k None lt) ∙ slice_get-get_or xs k o lt) ∙ sym e
  where
    same : {x y : Option ℕ} → ◌≡◌ {A = Option (Option ℕ)} (Some x) (Some y) → x ≡ y
    same h = cc

-- the ends of a `next` edge without a code are vertices
pub next_ends : (d : List ElementValue) (x : ElementValue) (a b : IdValue) → HasNoCode d x → single_of x ≡ Some (Next, (a, b)) → (is_some (vertex_at d a) ≡ true) × (is_some (vertex_at d b) ≡ true)
next_ends d (edge j (next p q)) a b free e =
    let pair : ◌≡◌ {A = Pair} (p, q) (a, b) = ap (λ o. pair_in o) e in
    let all = and_both (is_some (vertex_at d p)) (are_vertices d (q ∷ [])) (not_false (are_vertices d (p ∷ q ∷ [])) free.ends) in
    (subst (λ v. is_some (vertex_at d v) ≡ true) (ap (λ r. r.0) pair) all.0, subst (λ v. is_some (vertex_at d v) ≡ true) (ap (λ r. r.1) pair) (and_both (is_some (vertex_at d q)) true all.1).0)
  where
    pair_in : Option (SingleLabel × Pair) → Pair
    pair_in None = (p, q)
    pair_in (Some r) = r.1
next_ends d (edge j (request_edge kind p q)) a b free e = absurd (other_label e refl)
next_ends d (edge j (package_edge p q)) a b free e = absurd (other_label e refl)
next_ends d (edge j (contains p qs)) a b free e = absurd (cc)
next_ends d (edge j (moniker_edge p q)) a b free e = absurd (cc)
next_ends d (edge j (attach p q)) a b free e = absurd (cc)
next_ends d (edge j (item p)) a b free e = absurd (cc)
next_ends d (edge j (other_edge p qs)) a b free e = absurd (cc)
next_ends d (vertex j v) a b free e = absurd (cc)

-- where a vertex is known it has an index
pub has_index : (d : List ElementValue) (i : IdValue) (o : Option ℕ) → o ≡ index_in d i → is_some (vertex_at d i) ≡ true → o ≡ None → ⊥
has_index d i o is known none = let h : true ≡ false = sym (vertex_index d i known) ∙ ap is_some (sym is ∙ none) in cc

-- the element at a vertex's index has its id
pub id_there : (xs : List Element) (k : ℕ) (r : Element) (z : IdValue) → r ≡ get_or xs k r → index_in (map element_value xs) z ≡ Some k → element_id (element_value r) ≡ z
id_there xs k r z e at =
    let f = found_index (map element_value xs) z k at in
    let inside : k < length xs = omega (arith, slice_get_within (map element_value xs) k f.0 f.1, length-map xs element_value) in
    let read : get_or (map element_value xs) k (element_value r) ≡ f.0 = get_or_from_slice_get (map element_value xs) k f.0 (element_value r) f.1 in
    ap element_id (ap element_value e ∙ sym (get_or-map element_value xs k r (element_value r) inside) ∙ read) ∙ f.2
