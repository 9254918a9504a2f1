-- Finite sets: those whose members a list has. What is made of finite sets by tests, unions and
-- images is finite, and has a listing.
use Rattle.std.proofs.Common.{◌≡◌, ◌⊎◌, inl, inr, ⊎_elim, ◌∙◌, Bool, true, false, List, [], ◌∷◌, ◌++◌, refl, sym, ap, subst}
use Rattle.std.specs.Prelude.{◌↔◌, Contains, Option, Some, None}
use Rattle.std.specs.Cmp.{IsTotalOrder}
use Rattle.std.specs.List.Sorted.{IsStrictlySortedBy}
use Rattle.std.specs.Ordering.{ordering_reverse}
use Rattle.std.specs.declared.cmp.Ordering.{Ordering}
use Rattle.std.specs.declared.cmp.Ordering.TheVariants.{Less, Equal, Greater}
use Rattle.std.proofs.lemmas.List.Elements.{Contains-append_left, Contains-append_right, Contains-append_cases}
use Rattle.dump.specs.Places.{IsListing}
use Rattle.machine.proofs.EntryLists.{rises_cons, rises_nil, rises_head, rises_tail}
use Rattle.streams.proofs.Members.{contains_head, contains_tail, contains_one, contains_cases, not_in_nil}

-- a list has these members and no other
pub record Finite {X : Type 0} (P : X → Type 0) : Type 0 where
  pub members : List X
  pub each : (x : X) → Contains members x ↔ P x

abbrev pub Decision : Type 0 → Type 0
Decision A = A ⊎ (A → ⊥)

-- ---- small sets

pub of_list : {X : Type 0} (xs : List X) → Finite (Contains xs)
of_list xs = record { members = xs; each = λ x. (λ at. at, λ at. at) }

pub of_same : {X : Type 0} (P Q : X → Type 0) → ((x : X) → P x ↔ Q x) → Finite P → Finite Q
of_same P Q same f = record { members = f.members; each = λ x. (λ at. (same x).0 ((f.each x).0 at), λ q. (f.each x).1 ((same x).1 q)) }

pub of_none : {X : Type 0} (P : X → Type 0) → ((x : X) → P x → ⊥) → Finite P
of_none P none = record { members = []; each = λ x. (λ at. absurd (not_in_nil x at), λ p. absurd (none x p)) }

pub of_one : {X : Type 0} (y : X) → Finite (λ x. y ≡ x)
of_one y = record { members = y ∷ []; each = λ x. (contains_one y x, λ e. subst (Contains (y ∷ [])) e (contains_head y [])) }

some_is : {X : Type 0} (x y : X) → Some x ≡ Some y → x ≡ y
some_is x y e = cc

no_some : {X : Type 0} (x : X) → ◌≡◌ {A = Option X} None (Some x) → ⊥
no_some x e = cc

pub of_option : {X : Type 0} (o : Option X) → Finite (λ x. o ≡ Some x)
of_option None = of_none (λ x. None ≡ Some x) no_some
of_option (Some y) = of_same (λ x. y ≡ x) (λ x. Some y ≡ Some x) (λ x. (ap Some, some_is y x)) (of_one y)

-- the one, where something holds
pub of_decision : {A X : Type 0} (y : X) → Decision A → Finite (λ x. A × (y ≡ x))
of_decision {A} y (inl a) = of_same (λ x. y ≡ x) (λ x. A × (y ≡ x)) (λ x. (λ e. (a, e), λ h. h.1)) (of_one y)
of_decision {A} y (inr other) = of_none (λ x. A × (y ≡ x)) (λ x h. other h.0)

pub is_true : (b : Bool) → Decision (b ≡ true)
is_true true = inl refl
is_true false = inr (λ e. let no : false ≡ true = e in cc)

pub same_where : {A : Type 0} (b : Bool) → (b ≡ true → A) → (A → b ≡ true) → Decision A
same_where b to from = ⊎_elim (λ e. inl (to e)) (λ other. inr (λ a. other (from a))) (is_true b)

pub both : {A B : Type 0} → Decision A → Decision B → Decision (A × B)
both (inl a) (inl b) = inl (a, b)
both (inl a) (inr other) = inr (λ h. other h.1)
both (inr other) b = inr (λ h. other h.0)

-- ---- unions

module _ {X Y : Type 0} (Q : X → Y → Type 0) where
  of_members : (xs : List X) → ((x : X) → Contains xs x → Finite (Q x)) → Finite (λ y. (x : X) × Contains xs x × Q x y)
  of_members [] g = of_none (λ y. (x : X) × Contains [] x × Q x y) (λ y h. not_in_nil h.0 h.1)
  of_members (x ∷ xs) g =
      let first = g x (contains_head x xs) in
      let others = of_members xs (λ z at. g z (contains_tail x xs z at)) in
      record {
        members = first.members ++ others.members;
        each = λ y. (
          λ at. ⊎_elim
              (λ (h : Contains first.members y). (x, contains_head x xs, (first.each y).0 h))
              (λ (t : Contains others.members y). let r = (others.each y).0 t in (r.0, contains_tail x xs r.0 r.1, r.2))
              (Contains-append_cases first.members others.members y at),
          λ h. ⊎_elim
              (λ (e : x ≡ h.0). Contains-append_left first.members others.members y ((first.each y).1 (subst (λ z. Q z y) (sym e) h.2)))
              (λ (t : Contains xs h.0). Contains-append_right first.members others.members y ((others.each y).1 (h.0, t, h.2)))
              (contains_cases x xs h.0 h.1),
        );
      }

  pub of_union : (P : X → Type 0) → Finite P → ((x : X) → P x → Finite (Q x)) → Finite (λ y. (x : X) × P x × Q x y)
  of_union P f g = of_same (λ y. (x : X) × Contains f.members x × Q x y) (λ y. (x : X) × P x × Q x y)
      (λ y. (λ h. (h.0, (f.each h.0).0 h.1, h.2), λ h. (h.0, (f.each h.0).1 h.1, h.2)))
      (of_members f.members (λ x at. g x ((f.each x).0 at)))

-- the image of a set
pub of_image : {X Y : Type 0} (P : X → Type 0) (f : X → Y) → Finite P → Finite (λ y. (x : X) × P x × (f x ≡ y))
of_image P f finite = of_union (λ x y. f x ≡ y) P finite (λ x p. of_one (f x))

-- those of a set that have a property
pub of_those : {X : Type 0} (P Q : X → Type 0) → Finite P → ((x : X) → P x → Decision (Q x)) → Finite (λ x. P x × Q x)
of_those {X} P Q f decide =
    of_same (λ y. (x : X) × P x × (Q x × (x ≡ y))) (λ y. P y × Q y)
    (λ y. (λ h. (subst P h.2.1 h.1, subst Q h.2.1 h.2.0), λ h. (y, h.0, (h.1, refl))))
    (of_union (λ x y. Q x × (x ≡ y)) P f (λ x p. of_decision x (decide x p)))

-- the members of one set or of another
pub of_either : {X : Type 0} (P Q : X → Type 0) → Finite P → Finite Q → Finite (λ x. P x ⊎ Q x)
of_either P Q f g = record {
  members = f.members ++ g.members;
  each = λ x. (
    λ at. ⊎_elim (λ (h : Contains f.members x). inl ((f.each x).0 h)) (λ (t : Contains g.members x). inr ((g.each x).0 t)) (Contains-append_cases f.members g.members x at),
    λ h. ⊎_elim (λ (p : P x). Contains-append_left f.members g.members x ((f.each x).1 p)) (λ (q : Q x). Contains-append_right f.members g.members x ((g.each x).1 q)) h,
  );
}

-- ---- whether a set has a member

member_of : {X : Type 0} (xs : List X) → ((x : X) × Contains xs x) ⊎ ((x : X) → Contains xs x → ⊥)
member_of [] = inr not_in_nil
member_of (x ∷ xs) = inl (x, contains_head x xs)

pub has_member : {X : Type 0} (P : X → Type 0) → Finite P → Decision ((x : X) × P x)
has_member P f = ⊎_elim (λ h. inl (h.0, (f.each h.0).0 h.1)) (λ none. inr (λ h. none h.0 ((f.each h.0).1 h.1))) (member_of f.members)

-- ---- the listing of a set

module _ {X : Type 0} (cmp : X → X → Ordering) (total : IsTotalOrder cmp) where
  abbrev placed : Ordering → X → X → List X → List X → List X
  placed Less x y ys more = x ∷ y ∷ ys
  placed Equal x y ys more = y ∷ ys
  placed Greater x y ys more = y ∷ more

  abbrev put : X → List X → List X
  put x [] = x ∷ []
  put x (y ∷ ys) = placed (cmp x y) x y ys (put x ys)

  in_placed : (o : Ordering) (x y z : X) (ys more : List X) → (Contains more z → (x ≡ z) ⊎ Contains ys z) → Contains (placed o x y ys more) z → (x ≡ z) ⊎ Contains (y ∷ ys) z
  in_placed Less x y z ys more of at = contains_cases x (y ∷ ys) z at
  in_placed Equal x y z ys more of at = inr at
  in_placed Greater x y z ys more of at = ⊎_elim
      (λ (e : y ≡ z). inr (subst (Contains (y ∷ ys)) e (contains_head y ys)))
      (λ (t : Contains more z). ⊎_elim (λ (e : x ≡ z). inl e) (λ (u : Contains ys z). inr (contains_tail y ys z u)) (of t))
      (contains_cases y more z at)

  in_put : (x : X) (ys : List X) (z : X) → Contains (put x ys) z → (x ≡ z) ⊎ Contains ys z
  in_put x [] z at = inl (contains_one x z at)
  in_put x (y ∷ ys) z at = in_placed (cmp x y) x y z ys (put x ys) (in_put x ys z) at

  there_placed : (o : Ordering) (x y z : X) (ys more : List X) → (Contains ys z → Contains more z) → Contains (y ∷ ys) z → Contains (placed o x y ys more) z
  there_placed Less x y z ys more to at = contains_tail x (y ∷ ys) z at
  there_placed Equal x y z ys more to at = at
  there_placed Greater x y z ys more to at = ⊎_elim
      (λ (e : y ≡ z). subst (Contains (y ∷ more)) e (contains_head y more))
      (λ (t : Contains ys z). contains_tail y more z (to t))
      (contains_cases y ys z at)

  there_put : (x : X) (ys : List X) (z : X) → Contains ys z → Contains (put x ys) z
  there_put x [] z at = absurd (not_in_nil z at)
  there_put x (y ∷ ys) z at = there_placed (cmp x y) x y z ys (put x ys) (there_put x ys z) at

  here_placed : (o : Ordering) (x y : X) (ys more : List X) → cmp x y ≡ o → (cmp x y ≡ Equal → x ≡ y) → Contains more x → Contains (placed o x y ys more) x
  here_placed Less x y ys more e same at = contains_head x (y ∷ ys)
  here_placed Equal x y ys more e same at = subst (λ z. Contains (z ∷ ys) x) (same e) (contains_head x ys)
  here_placed Greater x y ys more e same at = contains_tail y more x at

  here_put : (x : X) (ys : List X) → ((y : X) → Contains ys y → cmp x y ≡ Equal → x ≡ y) → Contains (put x ys) x
  here_put x [] same = contains_head x []
  here_put x (y ∷ ys) same = here_placed (cmp x y) x y ys (put x ys) refl (same y (contains_head y ys)) (here_put x ys (λ z at. same z (contains_tail y ys z at)))

  above : (x y : X) (ys : List X) → cmp x y ≡ Less → IsStrictlySortedBy cmp (y ∷ ys) → (z : X) → Contains (y ∷ ys) z → cmp x z ≡ Less
  above x y ys less up z at = ⊎_elim
      (λ (e : y ≡ z). subst (λ w. cmp x w ≡ Less) e less)
      (λ (t : Contains ys z). total.trans x y z less (rises_head cmp y ys up z t))
      (contains_cases y ys z at)

  placed_rises : (o : Ordering) (x y : X) (ys : List X) → cmp x y ≡ o → IsStrictlySortedBy cmp (y ∷ ys) → IsStrictlySortedBy cmp (put x ys) → IsStrictlySortedBy cmp (placed o x y ys (put x ys))
  placed_rises Less x y ys e up more = rises_cons cmp x (y ∷ ys) (above x y ys e up) up
  placed_rises Equal x y ys e up more = up
  placed_rises Greater x y ys e up more =
      let less : cmp y x ≡ Less = total.antisymm y x ∙ ap ordering_reverse e in
      rises_cons cmp y (put x ys)
      (λ z at. ⊎_elim (λ (s : x ≡ z). subst (λ w. cmp y w ≡ Less) s less) (λ (t : Contains ys z). rises_head cmp y ys up z t) (in_put x ys z at))
      more

  put_rises : (x : X) (ys : List X) → IsStrictlySortedBy cmp ys → IsStrictlySortedBy cmp (put x ys)
  put_rises x [] up = rises_cons cmp x [] (λ y at. absurd (not_in_nil y at)) up
  put_rises x (y ∷ ys) up = placed_rises (cmp x y) x y ys refl up (put_rises x ys (rises_tail cmp y ys up))

  listing_of : (xs : List X) → ((x y : X) → Contains xs x → Contains xs y → cmp x y ≡ Equal → x ≡ y) → (ys : List X) × IsListing cmp (Contains xs) ys
  listing_of [] same = ([], record { rises = rises_nil cmp; each = λ x. (λ at. at, λ at. at) })
  listing_of (x ∷ xs) same =
      let rest = listing_of xs (λ y z at there. same y z (contains_tail x xs y at) (contains_tail x xs z there)) in
      let l = rest.1 in (
        put x rest.0,
        record {
          rises = put_rises x rest.0 l.rises;
          each = λ z. (
            λ at. ⊎_elim (λ (e : x ≡ z). subst (Contains (x ∷ xs)) e (contains_head x xs)) (λ (t : Contains rest.0 z). contains_tail x xs z ((l.each z).0 t)) (in_put x rest.0 z at),
            λ at. ⊎_elim
                (λ (e : x ≡ z). subst (Contains (put x rest.0)) e (here_put x rest.0 (λ y there. same x y (contains_head x xs) (contains_tail x xs y ((l.each y).0 there)))))
                (λ (t : Contains xs z). there_put x rest.0 z ((l.each z).1 t))
                (contains_cases x xs z at),
          );
        },
      )

  -- a finite set has a listing by an order in which no two of its members tie
  pub listing : (P : X → Type 0) → ((x y : X) → P x → P y → cmp x y ≡ Equal → x ≡ y) → Finite P → (xs : List X) × IsListing cmp P xs
  listing P same f =
      let l = listing_of f.members (λ x y at there. same x y ((f.each x).0 at) ((f.each y).0 there)) in (
        l.0,
        record { rises = l.1.rises; each = λ x. (λ at. (f.each x).0 ((l.1.each x).0 at), λ p. (l.1.each x).1 ((f.each x).1 p)) },
      )
