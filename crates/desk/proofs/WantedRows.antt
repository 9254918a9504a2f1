-- The rows of a listing of which something is wanted, and what is wanted of them.
use Rattle.std.proofs.Common.{◌≡◌, inl, inr, ◌∙◌, ◌&&◌, ◌++◌, ◌≤◌, ℕ, zero, suc, Bool, true, false, List, [], ◌∷◌, length, map, drop, refl, sym, ap, subst, arith}
use Rattle.std.specs.Prelude.{◌==◌, Contains, Option, Some, None, bytes_eq, if◌then◌else◌}
use Rattle.std.specs.List.{AllByRecursion, filter_map, cons_option}
use Rattle.std.specs.declared.cmp.Ordering.{Ordering}
use Rattle.std.specs.declared.cmp.Ordering.TheVariants.{Less}
use Rattle.std.specs.List.Sorted.{IsStrictlySortedBy}
use Rattle.positions.specs.Position.{PositionValue}
use Rattle.positions.specs.Span.{Covers, covers}
use Rattle.lsif.specs.Element.{ElementValue}
use Rattle.dump.specs.contracts.role.RolePartialEq.TheImpl as role_eq
use Rattle.dump.specs.declared.role.Role.{Role}
use Rattle.dump.specs.declared.role.Role.TheVariants.{Definitions, References}
use Rattle.dump.specs.Places.{IsListing, PlaceValue}
use Rattle.dump.specs.Progress.{DumpValue}
use Rattle.flatten.specs.Flat.{RangeRowValue, ItemRowValue, MarkRowValue, HoverRowValue, BearerRowValue, IsRangeRow, IsItemRow, IsMarkRow, IsHoverRow, IsBearerRow, by_line, item_cmp, mark_cmp, by_result, bearer_cmp}
use Rattle.machine.specs.Selections.{MarkText, BearerFound, bearer_row}
use Rattle.tables.specs.Steps.Climbs.{IsCoverRow}
use Rattle.desk.specs.Steps.Rows.{AreThose}
use Rattle.desk.specs.Steps.Selected.{item_row, item_wanted, IsItemOf, mark_row, mark_wanted, IsMarkOf, hover_row, hover_wanted, IsHoverOf, bearer_wanted, IsBearerOf, range_wanted}
use Rattle.machine.proofs.Covers.{covers_of, covers_from}
use Rattle.streams.proofs.Bools.{eq_of, and_both, and_of}
use Rattle.streams.proofs.Lists.{text_eq}
use Rattle.streams.proofs.Members.{contains_head, contains_tail, contains_cases, not_in_nil}

-- what is wanted of a row gives the row back, and what is so is wanted of its row
module _ {R V : Type 0} (wanted : R → Option V) (row : V → R) (IsSo : V → Type 0) (back : (r : R) (v : V) → wanted r ≡ Some v → (r ≡ row v) × IsSo v) (gives : (v : V) → IsSo v → wanted (row v) ≡ Some v) where
  pub wanted_from : (rows : List R) (v : V) → Contains (filter_map wanted rows) v → Contains rows (row v) × IsSo v
  wanted_from [] v at = absurd (not_in_nil v at)
  wanted_from (r ∷ rows) v at = by (wanted r) refl (λ h. wanted_from rows v h) at
    where
      by : (o : Option V) → wanted r ≡ o → (Contains (filter_map wanted rows) v → Contains rows (row v) × IsSo v) → Contains (cons_option o (filter_map wanted rows)) v → Contains (r ∷ rows) (row v) × IsSo v
      by None e more at = let h = more at in (contains_tail r rows (row v) h.0, h.1)
      by (Some w) e more at = elim (contains_cases w (filter_map wanted rows) v at) [
        | inl same ↦ (subst (Contains (r ∷ rows)) ((back r w e).0 ∙ ap row same) (contains_head r rows), subst IsSo same (back r w e).1)
        | inr rest ↦ (contains_tail r rows (row v) (more rest).0, (more rest).1)
      ]

  pub wanted_to : (rows : List R) (v : V) → IsSo v → Contains rows (row v) → Contains (filter_map wanted rows) v
  wanted_to [] v so at = absurd (not_in_nil (row v) at)
  wanted_to (r ∷ rows) v so at = elim (contains_cases r rows (row v) at) [
    | inl same ↦ subst (λ o. Contains (cons_option o (filter_map wanted rows)) v) (sym (ap wanted same ∙ gives v so)) (contains_head v (filter_map wanted rows))
    | inr more ↦ by (wanted r) (wanted_to rows v so more)
  ]
    where
      by : (o : Option V) → Contains (filter_map wanted rows) v → Contains (cons_option o (filter_map wanted rows)) v
      by None at = at
      by (Some w) at = contains_tail w (filter_map wanted rows) v at

  pub wanted_are : (P : R → Type 0) (S : V → Type 0) → ((v : V) → P (row v) → IsSo v → S v) → ((v : V) → S v → P (row v) × IsSo v) → (rows : List R) → AreThose P rows → AreThose S (filter_map wanted rows)
  wanted_are P S to from rows are v = ((λ at. let h = wanted_from rows v at in to v ((are (row v)).0 h.0) h.1), (λ s. let h = from v s in wanted_to rows v h.1 ((are (row v)).1 h.0)))

  module _ (row_cmp : R → R → Ordering) (cmp : V → V → Ordering) (same_cmp : (v w : V) → row_cmp (row v) (row w) ≡ cmp v w) where
    wanted_above : (w : V) (rows : List R) → AllByRecursion (λ y. row_cmp (row w) y ≡ Less) rows → AllByRecursion (λ y. cmp w y ≡ Less) (filter_map wanted rows)
    wanted_above w [] h = tt
    wanted_above w (r ∷ rows) h = by (wanted r) refl (wanted_above w rows h.1)
      where
        by : (o : Option V) → wanted r ≡ o → AllByRecursion (λ y. cmp w y ≡ Less) (filter_map wanted rows) → AllByRecursion (λ y. cmp w y ≡ Less) (cons_option o (filter_map wanted rows))
        by None e more = more
        by (Some v) e more = (sym (same_cmp w v) ∙ ap (row_cmp (row w)) (sym (back r v e).0) ∙ h.0, more)

    wanted_rises : (rows : List R) → IsStrictlySortedBy row_cmp rows → IsStrictlySortedBy cmp (filter_map wanted rows)
    unfolding IsStrictlySortedBy
    wanted_rises [] h = tt
    wanted_rises (r ∷ rows) h = by (wanted r) refl (wanted_rises rows h.1)
      where
        by : (o : Option V) → wanted r ≡ o → IsStrictlySortedBy cmp (filter_map wanted rows) → IsStrictlySortedBy cmp (cons_option o (filter_map wanted rows))
        by None e more = more
        by (Some v) e more = (wanted_above v rows (subst (λ x. AllByRecursion (λ y. row_cmp x y ≡ Less) rows) (back r v e).0 h.0), more)

    pub wanted_listing : (P : R → Type 0) (S : V → Type 0) → ((v : V) → P (row v) → IsSo v → S v) → ((v : V) → S v → P (row v) × IsSo v) → (rows : List R) → IsListing row_cmp P rows → IsListing cmp S (filter_map wanted rows)
    wanted_listing P S to from rows l = record { rises = wanted_rises rows l.rises; each = wanted_are P S to from rows l.each }

-- ---- loops over rows

drop_past : {A : Type 0} (k : ℕ) (xs : List A) → length xs ≤ k → drop k xs ≡ []
drop_past zero [] le = refl
drop_past zero (x ∷ xs) le = absurd (omega (arith, le))
drop_past (suc k) [] le = refl
drop_past (suc k) (x ∷ xs) le = drop_past k xs (omega (arith, le))

and_none : {V : Type 0} (vs : List V) → vs ++ [] ≡ vs
and_none [] = refl
and_none (v ∷ vs) = ap (λ ws. v ∷ ws) (and_none vs)

-- what was found when all rows were looked at
pub wanted_of : {A B R V : Type 0} (seen : B → V) (f : A → R) (wanted : R → Option V) (Q : List V → Type 0) (found : List B) (items all : List A) (k : ℕ)
    → map seen found ++ filter_map wanted (map f (drop k items)) ≡ filter_map wanted (map f items) → items ≡ all → length items ≤ k → Q (filter_map wanted (map f all)) → Q (map seen found)
wanted_of seen f wanted Q found items all k step same le q =
    let none = drop_past k items le in
    let whole : map seen found ≡ filter_map wanted (map f all) = sym (and_none (map seen found)) ∙ ap (λ xs. map seen found ++ filter_map wanted (map f xs)) (sym none) ∙ step ∙ ap (λ xs. filter_map wanted (map f xs)) same in
    subst Q (sym whole) q

-- what is known of all rows, once all were looked at
pub told_of : {A B V : Type 0} (seen : B → V) (f : A → V) (found : List B) (items all : List A) (k : ℕ) → map seen found ++ map f (drop k items) ≡ map f items → items ≡ all → length items ≤ k → map seen found ≡ map f all
told_of seen f found items all k step same le = sym (and_none (map seen found)) ∙ ap (λ xs. map seen found ++ map f xs) (sym (drop_past k items le)) ∙ step ∙ ap (map f) same

-- nothing was found
pub none_of : {A R V : Type 0} (f : A → R) (wanted : R → Option V) (items all : List A) (k : ℕ) → filter_map wanted (map f (drop k items)) ≡ filter_map wanted (map f items) → items ≡ all → length items ≤ k → filter_map wanted (map f all) ≡ []
none_of f wanted items all k step same le = ap (λ xs. filter_map wanted (map f xs)) (sym same) ∙ sym step ∙ ap (λ xs. filter_map wanted (map f xs)) (drop_past k items le)

-- ---- tests

when_some : {V : Type 0} (b : Bool) (x v : V) → ◌≡◌ {A = Option V} (if b then Some x else None) (Some v) → (b ≡ true) × (x ≡ v)
when_some true x v e = (refl, (let f = e in cc))
when_some false x v e = cc

nat_itself : (n : ℕ) → (n == n) ≡ true
nat_itself n = grind arith

text_itself : (xs : List ℕ) → bytes_eq xs xs ≡ true
text_itself [] = refl
text_itself (x ∷ xs) = and_of (x == x) (bytes_eq xs xs) (nat_itself x) (text_itself xs)

-- ---- items

abbrev IsAny : {V : Type 0} → V → Type 0
IsAny v = Unit {0}

role_itself : (r : Role) → role_eq.ghosts.eq r r ≡ true
role_itself Definitions = refl
role_itself References = refl

role_same : (r s : Role) → role_eq.ghosts.eq r s ≡ true → r ≡ s
role_same Definitions Definitions e = refl
role_same References References e = refl
role_same Definitions References e = cc
role_same References Definitions e = cc

module _ (result : ℕ) (role : Role) where
  item_back : (r : ItemRowValue) (v : PlaceValue) → item_wanted result role r ≡ Some v → (r ≡ item_row result role v) × IsAny v
  item_back r v e =
      let h = when_some (r.result == result && role_eq.ghosts.eq r.role role) r.place v e in
      let b = and_both (r.result == result) (role_eq.ghosts.eq r.role role) h.0 in
      let number = eq_of r.result result b.0 in
      let in_role = role_same r.role role b.1 in
      ((λ i. record { result = number i; role = in_role i; place = h.1 i }), tt)

  item_gives : (v : PlaceValue) → IsAny v → item_wanted result role (item_row result role v) ≡ Some v
  item_gives v so = let e = and_of (result == result) (role_eq.ghosts.eq role role) (nat_itself result) (role_itself role) in rw e refl

  pub items_wanted : (elements : List ElementValue) (rows : List ItemRowValue) → IsListing item_cmp (IsItemRow elements) rows → AreThose (IsItemOf elements result role) (filter_map (item_wanted result role) rows)
  items_wanted elements rows l =
      wanted_are (item_wanted result role) (item_row result role) IsAny item_back item_gives (IsItemRow elements) (IsItemOf elements result role) (λ v p so. p) (λ v p. (p, tt)) rows l.each

-- ---- marks

module _ (line : ℕ) where
  mark_back : (r : MarkRowValue) (v : MarkText) → mark_wanted line r ≡ Some v → (r ≡ mark_row line v) × IsAny v
  mark_back r v e =
      let h = when_some (r.range == line) (record { kind = r.kind; key = r.key }) v e in
      let number = eq_of r.range line h.0 in
      ((λ i. record { range = number i; kind = (h.1 i).kind; key = (h.1 i).key }), tt)

  mark_gives : (v : MarkText) → IsAny v → mark_wanted line (mark_row line v) ≡ Some v
  mark_gives v so = let e = nat_itself line in rw e refl

  pub marks_wanted : (elements : List ElementValue) (rows : List MarkRowValue) → IsListing mark_cmp (IsMarkRow elements) rows → AreThose (IsMarkOf elements line) (filter_map (mark_wanted line) rows)
  marks_wanted elements rows l = wanted_are (mark_wanted line) (mark_row line) IsAny mark_back mark_gives (IsMarkRow elements) (IsMarkOf elements line) (λ v p so. p) (λ v p. (p, tt)) rows l.each

-- ---- hovers

module _ (result : ℕ) where
  hover_back : (r : HoverRowValue) (v : List ℕ) → hover_wanted result r ≡ Some v → (r ≡ hover_row result v) × IsAny v
  hover_back r v e =
      let h = when_some (r.result == result) r.contents v e in
      let number = eq_of r.result result h.0 in
      ((λ i. record { result = number i; contents = h.1 i }), tt)

  hover_gives : (v : List ℕ) → IsAny v → hover_wanted result (hover_row result v) ≡ Some v
  hover_gives v so = let e = nat_itself result in rw e refl

  pub no_hover : (elements : List ElementValue) (rows : List HoverRowValue) → IsListing by_result (IsHoverRow elements) rows → filter_map (hover_wanted result) rows ≡ [] → IsHoverOf elements result None
  no_hover elements rows l e contents is =
      not_in_nil contents (subst (λ vs. Contains vs contents) e (wanted_to (hover_wanted result) (hover_row result) IsAny hover_back hover_gives rows contents tt ((l.each (hover_row result contents)).1 is)))

-- ---- bearers

module _ (project key : List ℕ) where
  abbrev IsTheirs : BearerFound → Type 0
  IsTheirs b = b.project ≡ project

  bearer_back : (r : BearerRowValue) (b : BearerFound) → bearer_wanted project key r ≡ Some b → (r ≡ bearer_row key b) × IsTheirs b
  bearer_back r b e =
      let h = when_some (bytes_eq r.key key) (record { project = project; line = r.line; kind = r.kind; results = r.results }) b e in
      let text = text_eq r.key key h.0 in
      ((λ i. record { line = (h.1 i).line; key = text i; kind = (h.1 i).kind; results = (h.1 i).results }), sym (ap (λ (x : BearerFound). x.project) h.1))

  bearer_gives : (b : BearerFound) → IsTheirs b → bearer_wanted project key (bearer_row key b) ≡ Some b
  bearer_gives b so = let e = text_itself key in rw e (λ i. Some (record { project = sym so i; line = b.line; kind = b.kind; results = b.results }))

  pub bearers_wanted : (elements : List ElementValue) (rows : List BearerRowValue) → IsListing bearer_cmp (IsBearerRow elements) rows → AreThose (IsBearerOf elements project key) (filter_map (bearer_wanted project key) rows)
  bearers_wanted elements rows l =
      wanted_are (bearer_wanted project key) (bearer_row key) IsTheirs bearer_back bearer_gives (IsBearerRow elements) (IsBearerOf elements project key) (λ b p so. (so, p)) (λ b s. (s.1, s.0)) rows l.each

-- ---- ranges

module _ (dump : DumpValue) (uri : List ℕ) (at : PositionValue) where
  abbrev IsCovered : RangeRowValue → Type 0
  IsCovered r = (r.place.uri ≡ uri) × Covers r.place.span at

  range_back : (r s : RangeRowValue) → range_wanted uri at r ≡ Some s → (r ≡ s) × IsCovered s
  range_back r s e =
      let h = when_some (bytes_eq r.place.uri uri && covers r.place.span at) r s e in
      let b = and_both (bytes_eq r.place.uri uri) (covers r.place.span at) h.0 in
      (h.1, subst IsCovered h.1 (text_eq r.place.uri uri b.0, covers_of r.place.span at b.1))

  range_gives : (s : RangeRowValue) → IsCovered s → range_wanted uri at s ≡ Some s
  range_gives s so =
      let same : bytes_eq s.place.uri uri ≡ true = ap (bytes_eq s.place.uri) (sym so.0) ∙ text_itself s.place.uri in
      let e = and_of (bytes_eq s.place.uri uri) (covers s.place.span at) same (covers_from s.place.span at so.1) in rw e refl

  pub ranges_wanted : (rows : List RangeRowValue) → IsListing by_line (IsRangeRow dump.elements) rows → IsListing by_line (IsCoverRow dump uri at) (filter_map (range_wanted uri at) rows)
  ranges_wanted rows l =
      wanted_listing (range_wanted uri at) (λ r. r) IsCovered range_back range_gives by_line by_line (λ v w. refl) (IsRangeRow dump.elements) (IsCoverRow dump uri at) (λ r p so. ((p, so.0), so.1)) (λ r k. (k.0.0, (k.0.1, k.1))) rows l
