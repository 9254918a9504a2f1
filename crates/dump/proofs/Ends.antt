-- A pair more, from a vertex that has none, to one from which no path leads back: each chain still
-- ends. So it is in a sound dump, where no `next` edge leaves a vertex twice or closes a cycle.
use Rattle.std.proofs.Common.{◌≡◌, ⊎_elim, Bool, true, false, cond, List, [], ◌∷◌, ◌++◌, map, append_assoc, append-nil, refl, sym, ap, ◌∙◌, subst, Ok, find, fold}
use Rattle.std.specs.Prelude.{Option, Some, None, is_some, Contains, if◌then◌else◌}
use Rattle.std.specs.List.{flat_map}
use Rattle.std.proofs.lemmas.List.Elements.{Contains-push_cases}
use Rattle.lsif.specs.declared.code.Code.{Code}
use Rattle.lsif.specs.declared.code.Code.TheVariants.{L04, L06, L09, L10, L11, L12, L13, L14, L16, L17, L18, L19, L20}
use Rattle.lsif.specs.Element.{IdValue, same_id, contains, next, request_edge, moniker_edge, package_edge, attach, item, other_edge, ElementValue, vertex, edge}
use Rattle.dump.specs.Walks.{Pair, first_to, IsChain, ends, links, HasChain, Path, stays, goes, single_in, next_pairs}
use Rattle.dump.specs.declared.single.SingleLabel.TheVariants.{Next}
use Rattle.dump.specs.Conditions.{order_code, order_condition, has_used_id, joins_no_vertex, may_not_join, is_contained_again, is_conflicting, leaves_again, closes_cycle, has_used_uri}
use Rattle.dump.specs.Ended.{is_bad_event}
use Rattle.dump.specs.Progress as steps
use Rattle.dump.specs.Progress.{running, advance, IsSound, Progress, stopped, progress}
use Rattle.streams.proofs.Bools.{absurd_true}
use Rattle.streams.proofs.Members.{contains_head, contains_tail, not_in_nil}
use Rattle.dump.proofs.SameIds.{same_id_eq, same_id_self}
use Rattle.dump.proofs.Paths.{reaches_of}
use Rattle.dump.proofs.Progresses.{stays_stopped}

-- what a vertex is joined to, after more pairs
more_by : (o p : Option IdValue) (v y : IdValue) → (o ≡ Some y → p ≡ Some y) → (b : Bool) → cond b (Some v) o ≡ Some y → cond b (Some v) p ≡ Some y
more_by o p v y rest true h = h
more_by o p v y rest false h = rest h

pub first_more : (ps qs : List Pair) (x : IdValue) (y : IdValue) → first_to ps x ≡ Some y → first_to (ps ++ qs) x ≡ Some y
first_more [] qs x y e = cc
first_more (p ∷ ps) qs x y e = more_by (first_to ps x) (first_to (ps ++ qs) x) p.1 y (first_more ps qs x y) (same_id p.0 x) e

none_by : (o p q : Option IdValue) (v : IdValue) → (o ≡ None → p ≡ q) → (b : Bool) → cond b (Some v) o ≡ None → cond b (Some v) p ≡ q
none_by o p q v rest true h = cc
none_by o p q v rest false h = rest h

pub first_none : (ps : List Pair) (a b x : IdValue) → first_to ps x ≡ None → first_to (ps ++ (a, b) ∷ []) x ≡ (if same_id a x then Some b else None)
first_none [] a b x e = refl
first_none (p ∷ ps) a b x e = none_by (first_to ps x) (first_to (ps ++ (a, b) ∷ []) x) (if same_id a x then Some b else None) p.1 (first_none ps a b x) (same_id p.0 x) e

pair_by : (p : Pair) (ps : List Pair) (x y : IdValue) → (first_to ps x ≡ Some y → Contains ps (x, y)) → (b : Bool) → (same_id p.0 x) ≡ b → cond b (Some p.1) (first_to ps x) ≡ Some y → Contains (p ∷ ps) (x, y)
pair_by p ps x y rest true same h =
    let source : p.0 ≡ x = same_id_eq p.0 x same in
    let target : p.1 ≡ y = cc in
    subst (Contains (p ∷ ps)) (λ i. (source i, target i)) (contains_head p ps)
pair_by p ps x y rest false same h = contains_tail p ps (x, y) (rest h)

pub pair_of_first : (ps : List Pair) (x y : IdValue) → first_to ps x ≡ Some y → Contains ps (x, y)
pair_of_first [] x y e = cc
pair_of_first (p ∷ ps) x y e = pair_by p ps x y (pair_of_first ps x y) (same_id p.0 x) refl e

module _ (ps : List Pair) (a b : IdValue) (free : first_to ps a ≡ None) (apart : Path ps b a → ⊥) where
  abbrev more : List Pair
  more = ps ++ (a, b) ∷ []

  -- what b leads to doesn't come to a, and so stays a chain
  carry : (x : IdValue) (xs : List IdValue) → IsChain ps x xs → Path ps b x → IsChain more x xs
  carry x xs (ends e) path = by (same_id a x) refl
    where
      by : (c : Bool) → (same_id a x) ≡ c → IsChain (ps ++ (a, b) ∷ []) x (x ∷ [])
      by true same = absurd (apart (subst (Path ps b) (sym (same_id_eq a x same)) path))
      by false same = ends (first_none ps a b x e ∙ ap (λ c. cond c (Some b) None) same)
  carry x xs (links {y = y} {ys = ys} e c) path = links (first_more ps ((a, b) ∷ []) x y e) (carry y ys c (goes y path (pair_of_first ps x y e)))

  pub still_ends : HasChain ps b → (x : IdValue) (xs : List IdValue) → IsChain ps x xs → HasChain more x
  still_ends from x xs (ends e) = by (same_id a x) refl
    where
      by : (c : Bool) → (same_id a x) ≡ c → HasChain (ps ++ (a, b) ∷ []) x
      by true same = (x ∷ from.0, links (first_none ps a b x e ∙ ap (λ c. cond c (Some b) None) same) (carry b from.0 from.1 stays))
      by false same = (x ∷ [], ends (first_none ps a b x e ∙ ap (λ c. cond c (Some b) None) same))
  still_ends from x xs (links {y = y} {ys = ys} e c) = let r = still_ends from y ys c in (x ∷ r.0, links (first_more ps ((a, b) ∷ []) x y e) r.1)

  pub all_end : ((x : IdValue) → HasChain ps x) → (x : IdValue) → HasChain (ps ++ (a, b) ∷ []) x
  all_end each x = still_ends (each b) x (each x).0 (each x).1

-- ---- in a dump

-- no element of the rest has a fault against those before it
abbrev pub SoundAfter : List ElementValue → List ElementValue → Type 0
SoundAfter before [] = Unit {0}
SoundAfter before (x ∷ rest) = (order_code before x ≡ None) × SoundAfter (before ++ x ∷ []) rest

sound_ok : (before : List ElementValue) (x : ElementValue) (rest out : List ElementValue) (o : Option Code) → order_code before x ≡ o
    → (fold steps.next (running (before ++ x ∷ [])) (map Ok rest) ≡ running out → SoundAfter (before ++ x ∷ []) rest)
    → fold steps.next (advance before (Ok x) o) (map Ok rest) ≡ running out → SoundAfter before (x ∷ rest)
sound_ok before x rest out None e ih h = (e, ih h)
sound_ok before x rest out (Some c) e ih h = absurd (stays_stopped (map Ok rest) _ out h)

sound_from : (rest before out : List ElementValue) → fold steps.next (running before) (map Ok rest) ≡ running out → SoundAfter before rest
sound_from [] before out h = tt
sound_from (x ∷ rest) before out h = sound_ok before x rest out (order_code before x) refl (sound_from rest (before ++ x ∷ []) out) h

pub sound_after : (elements : List ElementValue) → IsSound elements → SoundAfter [] elements
sound_after elements h = sound_from elements [] elements h

pub pairs_more : (f : ElementValue → List Pair) (before : List ElementValue) (x : ElementValue) → flat_map f (before ++ x ∷ []) ≡ flat_map f before ++ f x
pairs_more f [] x = append-nil (f x)
pairs_more f (e ∷ d) x = ap (λ ps. f e ++ ps) (pairs_more f d x) ∙ sym (append_assoc (f e) (flat_map f d) (f x))

find_none : (p : Code → Bool) (c : Code) (cs : List Code) → find p (c ∷ cs) ≡ None → (p c ≡ false) × (find p cs ≡ None)
find_none p c cs e = by (p c) refl e
  where
    by : (b : Bool) → p c ≡ b → cond b (Some c) (find p cs) ≡ None → (p c ≡ false) × (find p cs ≡ None)
    by true same h = cc
    by false same h = (same, h)

-- what an element without a code is not
pub record HasNoCode (before : List ElementValue) (x : ElementValue) : Type 0 where
  pub fresh : has_used_id before x ≡ false
  pub ends : joins_no_vertex before x ≡ false
  pub joins : may_not_join before x ≡ false
  pub again : is_contained_again before x ≡ false
  pub conflict : is_conflicting before x ≡ false
  pub single : leaves_again before x ≡ false
  pub cycle : closes_cycle before x ≡ false
  pub event : is_bad_event before x ≡ false
  pub uri : has_used_uri before x ≡ false

pub no_code : (before : List ElementValue) (x : ElementValue) → order_code before x ≡ None → HasNoCode before x
unfolding order_code
no_code before x e =
    let p = order_condition before x in
    let at_04 = find_none p L04 (L06 ∷ L09 ∷ L10 ∷ L11 ∷ L12 ∷ L13 ∷ L14 ∷ L16 ∷ L17 ∷ L18 ∷ L19 ∷ L20 ∷ []) e in
    let at_06 = find_none p L06 (L09 ∷ L10 ∷ L11 ∷ L12 ∷ L13 ∷ L14 ∷ L16 ∷ L17 ∷ L18 ∷ L19 ∷ L20 ∷ []) at_04.1 in
    let at_09 = find_none p L09 (L10 ∷ L11 ∷ L12 ∷ L13 ∷ L14 ∷ L16 ∷ L17 ∷ L18 ∷ L19 ∷ L20 ∷ []) at_06.1 in
    let at_10 = find_none p L10 (L11 ∷ L12 ∷ L13 ∷ L14 ∷ L16 ∷ L17 ∷ L18 ∷ L19 ∷ L20 ∷ []) at_09.1 in
    let at_11 = find_none p L11 (L12 ∷ L13 ∷ L14 ∷ L16 ∷ L17 ∷ L18 ∷ L19 ∷ L20 ∷ []) at_10.1 in
    let at_12 = find_none p L12 (L13 ∷ L14 ∷ L16 ∷ L17 ∷ L18 ∷ L19 ∷ L20 ∷ []) at_11.1 in
    let at_13 = find_none p L13 (L14 ∷ L16 ∷ L17 ∷ L18 ∷ L19 ∷ L20 ∷ []) at_12.1 in
    let at_14 = find_none p L14 (L16 ∷ L17 ∷ L18 ∷ L19 ∷ L20 ∷ []) at_13.1 in
    let at_16 = find_none p L16 (L17 ∷ L18 ∷ L19 ∷ L20 ∷ []) at_14.1 in
    let at_17 = find_none p L17 (L18 ∷ L19 ∷ L20 ∷ []) at_16.1 in
    let at_18 = find_none p L18 (L19 ∷ L20 ∷ []) at_17.1 in
    let at_19 = find_none p L19 (L20 ∷ []) at_18.1 in
    record {
      fresh = at_04.0;
      ends = at_09.0;
      joins = at_10.0;
      again = at_11.0;
      conflict = at_12.0;
      single = at_13.0;
      cycle = at_14.0;
      event = at_17.0;
      uri = at_19.0;
    }

-- ---- a fact of the empty list that an element without a code keeps

module _ (P : List ElementValue → Type 0) (none : P []) (more : (d : List ElementValue) (x : ElementValue) → HasNoCode d x → P d → P (d ++ x ∷ [])) where
  holds_after : (rest before : List ElementValue) → SoundAfter before rest → P before → P (before ++ rest)
  holds_after [] before h p = subst P (sym (append-nil before)) p
  holds_after (x ∷ rest) before h p = subst P (append_assoc before (x ∷ []) rest) (holds_after rest (before ++ x ∷ []) h.1 (more before x (no_code before x h.0) p))

  pub holds : (elements : List ElementValue) → IsSound elements → P elements
  holds elements h = holds_after elements [] (sound_after elements h) none

-- ---- chains end

none_of : (o : Option IdValue) → is_some o ≡ false → o ≡ None
none_of None e = refl
none_of (Some x) e = cc

same_pairs : (before : List ElementValue) (x : ElementValue) → single_in Next x ≡ [] → ((v : IdValue) → HasChain (next_pairs before) v) → (v : IdValue) → HasChain (next_pairs (before ++ x ∷ [])) v
same_pairs before x e each v = subst (λ ps. HasChain ps v) (sym (pairs_more (single_in Next) before x ∙ ap (λ ps. next_pairs before ++ ps) e ∙ append-nil (next_pairs before))) (each v)

one_more : (before : List ElementValue) (x : ElementValue) → HasNoCode before x → ((v : IdValue) → HasChain (next_pairs before) v) → (v : IdValue) → HasChain (next_pairs (before ++ x ∷ [])) v
one_more before (edge i (next a b)) free each v =
    let apart = λ (path : Path (next_pairs before) b a). let yes = reaches_of (next_pairs before) b a path in absurd (absurd_true (sym yes ∙ free.cycle)) in
    subst (λ ps. HasChain ps v) (sym (pairs_more (single_in Next) before (edge i (next a b)))) (all_end (next_pairs before) a b (none_of (first_to (next_pairs before) a) free.single) apart each v)
one_more before (edge i (contains a bs)) e each v = same_pairs before (edge i (contains a bs)) refl each v
one_more before (edge i (request_edge kind a b)) e each v = same_pairs before (edge i (request_edge kind a b)) refl each v
one_more before (edge i (moniker_edge a b)) e each v = same_pairs before (edge i (moniker_edge a b)) refl each v
one_more before (edge i (package_edge a b)) e each v = same_pairs before (edge i (package_edge a b)) refl each v
one_more before (edge i (attach a b)) e each v = same_pairs before (edge i (attach a b)) refl each v
one_more before (edge i (item a)) e each v = same_pairs before (edge i (item a)) refl each v
one_more before (edge i (other_edge a bs)) e each v = same_pairs before (edge i (other_edge a bs)) refl each v
one_more before (vertex i w) e each v = same_pairs before (vertex i w) refl each v

pub each_ends : (elements : List ElementValue) → IsSound elements → (v : IdValue) → HasChain (next_pairs elements) v
each_ends = holds (λ d. (v : IdValue) → HasChain (next_pairs d) v) (λ w. (w ∷ [], ends refl)) one_more

-- ---- no vertex is left twice

abbrev pub Single : List Pair → Type 0
Single ps = (x y : IdValue) → Contains ps (x, y) → first_to ps x ≡ Some y

single_more : (ps : List Pair) (a b : IdValue) → first_to ps a ≡ None → Single ps → Single (ps ++ (a, b) ∷ [])
single_more ps a b free one x y at = ⊎_elim
    (λ (h : Contains ps (x, y)). first_more ps ((a, b) ∷ []) x y (one x y h))
    (λ (e : (a, b) ≡ (x, y)).
    let source : a ≡ x = ap (λ p. p.0) e in
    let target : b ≡ y = ap (λ p. p.1) e in
    let none : first_to ps x ≡ None = subst (λ v. first_to ps v ≡ None) source free in
    let here : same_id a x ≡ true = subst (λ v. same_id a v ≡ true) source (same_id_self a) in
    first_none ps a b x none ∙ ap (λ c. cond c (Some b) None) here ∙ ap Some target)
    (Contains-push_cases ps (a, b) (x, y) at)

same_single : (before : List ElementValue) (x : ElementValue) → single_in Next x ≡ [] → Single (next_pairs before) → Single (next_pairs (before ++ x ∷ []))
same_single before x e one = subst Single (sym (pairs_more (single_in Next) before x ∙ ap (λ ps. next_pairs before ++ ps) e ∙ append-nil (next_pairs before))) one

single_one : (before : List ElementValue) (x : ElementValue) → HasNoCode before x → Single (next_pairs before) → Single (next_pairs (before ++ x ∷ []))
single_one before (edge i (next a b)) free one =
    subst Single (sym (pairs_more (single_in Next) before (edge i (next a b)))) (single_more (next_pairs before) a b (none_of (first_to (next_pairs before) a) free.single) one)
single_one before (edge i (contains a bs)) e one = same_single before (edge i (contains a bs)) refl one
single_one before (edge i (request_edge kind a b)) e one = same_single before (edge i (request_edge kind a b)) refl one
single_one before (edge i (moniker_edge a b)) e one = same_single before (edge i (moniker_edge a b)) refl one
single_one before (edge i (package_edge a b)) e one = same_single before (edge i (package_edge a b)) refl one
single_one before (edge i (attach a b)) e one = same_single before (edge i (attach a b)) refl one
single_one before (edge i (item a)) e one = same_single before (edge i (item a)) refl one
single_one before (edge i (other_edge a bs)) e one = same_single before (edge i (other_edge a bs)) refl one
single_one before (vertex i w) e one = same_single before (vertex i w) refl one

pub each_single : (elements : List ElementValue) → IsSound elements → Single (next_pairs elements)
each_single = holds (λ d. Single (next_pairs d)) (λ x y at. absurd (not_in_nil (x, y) at)) single_one
