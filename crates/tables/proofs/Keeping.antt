-- The rows that each step leaves are those of the next state.
use Rattle.std.proofs.Common.{eqb-true, eq-eqb, ◌≡◌, ◌≢◌, ◌⊎◌, ◌↔◌, ◌&&◌, ◌==◌, inl, inr, ℕ, ℤ, pos, Bool, true, false, List, [], ◌∷◌, map, Option, Some, None, if◌then◌else◌, refl, sym, ap, subst, ◌∙◌, arith, Equal, int_cmp, is_eq}
use Rattle.std.specs.List.{AllByRecursion}
use Rattle.std.specs.Cmp.{int_ranked}
use Rattle.std.proofs.lemmas.Bool.{cases_Bool}
use Rattle.std.proofs.lemmas.Cmp.{tied_itself, int_cmp_total, nat_list_cmp_total}
use Rattle.std.proofs.lemmas.Map.Lookups.{exact_bytes}
use Rattle.sqlite_value.specs.Order.{Row}
use Rattle.sqlite_value.specs.declared.value.Value.TheVariants.{Int, Text, Null}
use Rattle.sqlite_schema.specs.declared.schema.Table.{Table}
use Rattle.sqlite_trees.specs.Tree.{Trees}
use Rattle.sqlite_rules.specs.Lists.{Has}
use Rattle.sqlite_rules.proofs.ListLemmas.{all_has}
use Rattle.tables.specs.Schema.{schema_two, slot, document, range_row as ranges, item, hover, mark, bearer, tag, part_profile, more}
use Rattle.tables.specs.Databases.{Holds}
use Rattle.tables.specs.Steps.Puts.{Puts, PutsAll}
use Rattle.tables.specs.Contents.{Contents, Replies, slot_row, IsOwned, IsReply, owned, Keeps, same_text, is_at, changed, kept}
use Rattle.tables.specs.Columns.{laid, nowhere}
use Rattle.tables.specs.Parts.{part_number, same_part}
use Rattle.tables.specs.declared.slots.Part.{Part}
use Rattle.tables.specs.declared.slots.Part.TheVariants.{Dump, Tags}
use Rattle.tables.specs.TableTrees.{keyed_tree, slot_tree}
use Rattle.tables.proofs.Cascade.{same_or_not, equal_is}

pub both : (a b : Bool) → a && b ≡ true → (a ≡ true) × (b ≡ true)
both true b h = (refl, h)
both false b h = absurd cc

pub same_text_is : (a b : List ℕ) → same_text a b ≡ true → a ≡ b
same_text_is a b h = exact_bytes a b (equal_is _ h)

pub same_text_itself : (a : List ℕ) → same_text a a ≡ true
same_text_itself a = ap is_eq (tied_itself nat_list_cmp_total a)

pub same_int_is : (x y : ℤ) → is_eq (int_cmp x y) ≡ true → x ≡ y
same_int_is x y h = int_ranked x y Equal (sym (equal_is _ h))

pub same_int_itself : (x : ℤ) → is_eq (int_cmp x x) ≡ true
same_int_itself x = ap is_eq (tied_itself int_cmp_total x)

-- ---- kinds of parts

pub same_part_is : (a b : Part) → same_part a b ≡ true → a ≡ b
same_part_is Dump Dump h = refl
same_part_is Dump Tags h = absurd cc
same_part_is Tags Dump h = absurd cc
same_part_is Tags Tags h = refl

same_part_itself : (a : Part) → same_part a a ≡ true
same_part_itself Dump = refl
same_part_itself Tags = refl

-- the numbers of two kinds differ
pub number_is : (a b : Part) → part_number a ≡ part_number b → a ≡ b
number_is Dump Dump h = refl
number_is Dump Tags h = absurd cc
number_is Tags Dump h = absurd cc
number_is Tags Tags h = refl

-- a comparison of numbers is one of kinds
pub numbers_are : (a b : Part) → (is_eq (int_cmp (part_number a) (part_number b)) && true) ≡ same_part a b
numbers_are a b = elim (cases_Bool (is_eq (int_cmp (part_number a) (part_number b)))) [
  | inl same ↦ rw (same, number_is a b (same_int_is (part_number a) (part_number b) same)) (sym (same_part_itself b))
  | inr off ↦ elim (cases_Bool (same_part a b)) [
    | inl same ↦ absurd (let yes = same_int_itself (part_number b) in let e = rw (same_part_is a b same) at off in cc)
    | inr other ↦ rw (off, other)
  ]
]

pub which_part : (part : Part) → (part ≡ Dump) ⊎ (part ≡ Tags)
which_part Dump = inl refl
which_part Tags = inr refl

pub at_is : (project : List ℕ) (part : Part) (p : List ℕ) (k : Part) → is_at project part p k ≡ true → (p ≡ project) × (k ≡ part)
at_is project part p k h =
    let a = both _ _ h in
    (same_text_is p project a.0, same_part_is k part a.1)

pub at_itself : (project : List ℕ) (part : Part) → is_at project part project part ≡ true
at_itself project part = rw (same_text_itself project, same_part_itself part)

then_is : {X : Type 0} (b : Bool) (x y : X) → b ≡ true → (if b then x else y) ≡ x
then_is true x y h = refl
then_is false x y h = absurd cc

else_is : {X : Type 0} (b : Bool) (x y : X) → b ≡ false → (if b then x else y) ≡ y
else_is true x y h = absurd cc
else_is false x y h = refl

pub none_is_some : {X : Type 0} {x : X} → ◌≡◌ {A = Option X} None (Some x) → ⊥
none_is_some e = absurd cc

pub same_some : {X : Type 0} {x y : X} → ◌≡◌ {A = Option X} (Some x) (Some y) → x ≡ y
same_some e = cc

pub slot_is : {a b : ℤ} {p q : List ℕ} {j k : Part} → slot_row a p j ≡ slot_row b q k → (a ≡ b) × ((p ≡ q) × (j ≡ k))
slot_is e = (cc, (cc, number_is _ _ cc))

pair : {X Y : Type 0} {a b : X} {c d : Y} → a ≡ b → c ≡ d → ◌≡◌ {A = X × Y} (a, c) (b, d)
pair e f = cc

-- ---- lists

pub from_map : {X Y : Type 0} (f : X → Y) (xs : List X) (y : Y) → Has (map f xs) y → (x : X) × Has xs x × (y ≡ f x)
from_map f [] y h = absurd h
from_map f (x ∷ xs) y (inl e) = (x, inl refl, e)
from_map f (x ∷ xs) y (inr h) = let r = from_map f xs y h in (r.0, inr r.1, r.2)

pub to_map : {X Y : Type 0} (f : X → Y) (xs : List X) (x : X) → Has xs x → Has (map f xs) (f x)
to_map f [] x h = absurd h
to_map f (y ∷ xs) x (inl e) = inl (ap f e)
to_map f (y ∷ xs) x (inr h) = inr (to_map f xs x h)

laid_here : (tree : ℕ) (list : List Row) (rows : ℕ → List Row) → laid tree list rows tree ≡ list
laid_here tree list rows = then_is (tree == tree) list (rows tree) (eq-eqb tree tree refl)

laid_other : (tree t : ℕ) (list : List Row) (rows : ℕ → List Row) → t ≢ tree → laid tree list rows t ≡ rows t
laid_other tree t list rows differ = elim (cases_Bool (t == tree)) [ inl same ↦ absurd (differ (eqb-true t tree same)) | inr other ↦ else_is (t == tree) list (rows t) other ]

abbrev is_key : List ℕ → List ℕ → List ℕ → List ℕ → Bool
is_key project key p k = same_text p project && (same_text k key && true)

pub key_is : (project key p k : List ℕ) → is_key project key p k ≡ true → (p ≡ project) × (k ≡ key)
key_is project key p k h =
    let a = both _ _ h in
    let b = both _ _ a.1 in
    (same_text_is p project a.0, same_text_is k key b.0)

-- ---- other trees

pub table_of : (t : ℕ) → Has owned t → (table : Table) × Has schema_two.tables table × (table.tree ≡ t)
table_of t (inl e) = (document, inr (inr (inr (inl refl))), sym e)
table_of t (inr (inl e)) = (ranges, inr (inr (inr (inr (inl refl)))), sym e)
table_of t (inr (inr (inl e))) = (item, inr (inr (inr (inr (inr (inl refl))))), sym e)
table_of t (inr (inr (inr (inl e)))) = (hover, inr (inr (inr (inr (inr (inr (inl refl)))))), sym e)
table_of t (inr (inr (inr (inr (inl e))))) = (mark, inr (inr (inr (inr (inr (inr (inr (inl refl))))))), sym e)
table_of t (inr (inr (inr (inr (inr (inl e)))))) = (bearer, inr (inr (inr (inr (inr (inr (inr (inr (inl refl)))))))), sym e)
table_of t (inr (inr (inr (inr (inr (inr (inl e))))))) = (tag, inr (inr (inr (inr (inr (inr (inr (inr (inr (inl refl))))))))), sym e)
table_of t (inr (inr (inr (inr (inr (inr (inr (inl e)))))))) = (part_profile, inr (inr (inr (inr (inr (inr (inr (inr (inr (inr (inl refl)))))))))), sym e)
table_of t (inr (inr (inr (inr (inr (inr (inr (inr (inl e))))))))) = (more, inr (inr (inr (inr (inr (inr (inr (inr (inr (inr (inr (inl refl))))))))))), sym e)
table_of t (inr (inr (inr (inr (inr (inr (inr (inr (inr none))))))))) = absurd none

pub is_owned : (t : ℕ) → Has owned t → (t ≢ 0) × ((t ≢ 1) × (t ≢ 3))
is_owned t (inl e) = rw e ((λ z. omega (arith, z)), ((λ z. omega (arith, z)), (λ z. omega (arith, z))))
is_owned t (inr (inl e)) = rw e ((λ z. omega (arith, z)), ((λ z. omega (arith, z)), (λ z. omega (arith, z))))
is_owned t (inr (inr (inl e))) = rw e ((λ z. omega (arith, z)), ((λ z. omega (arith, z)), (λ z. omega (arith, z))))
is_owned t (inr (inr (inr (inl e)))) = rw e ((λ z. omega (arith, z)), ((λ z. omega (arith, z)), (λ z. omega (arith, z))))
is_owned t (inr (inr (inr (inr (inl e))))) = rw e ((λ z. omega (arith, z)), ((λ z. omega (arith, z)), (λ z. omega (arith, z))))
is_owned t (inr (inr (inr (inr (inr (inl e)))))) = rw e ((λ z. omega (arith, z)), ((λ z. omega (arith, z)), (λ z. omega (arith, z))))
is_owned t (inr (inr (inr (inr (inr (inr (inl e))))))) = rw e ((λ z. omega (arith, z)), ((λ z. omega (arith, z)), (λ z. omega (arith, z))))
is_owned t (inr (inr (inr (inr (inr (inr (inr (inl e)))))))) = rw e ((λ z. omega (arith, z)), ((λ z. omega (arith, z)), (λ z. omega (arith, z))))
is_owned t (inr (inr (inr (inr (inr (inr (inr (inr (inl e))))))))) = rw e ((λ z. omega (arith, z)), ((λ z. omega (arith, z)), (λ z. omega (arith, z))))
is_owned t (inr (inr (inr (inr (inr (inr (inr (inr (inr none))))))))) = absurd none

abbrev Others : ℕ → Trees → Trees → Type 0
Others tree old new = AllByRecursion (λ t. t.tree ≢ tree → new t.tree ≡ old t.tree) schema_two.tables

other_tree : (tree t : ℕ) (old new : Trees) → Others tree old new → Has owned t → t ≢ tree → new t ≡ old t
other_tree tree t old new others h differ =
    let it = table_of t h in
    let same = all_has (λ (x : Table). x.tree ≢ tree → new x.tree ≡ old x.tree) schema_two.tables it.0 others it.1 (λ e. differ (sym it.2 ∙ e)) in
    subst (λ x. new x ≡ old x) it.2 same

-- ---- one part, whose rows change

module _ (parts : Contents) (project : List ℕ) (part : Part) where
  abbrev With : Option (ℕ → List Row) → Contents
  With = changed parts project part

  pub which : (p : List ℕ) (k : Part) → ((p ≡ project) × (k ≡ part)) ⊎ (is_at project part p k ≡ false)
  which p k = elim (cases_Bool (is_at project part p k)) [ inl here ↦ inl (at_is project part p k here) | inr other ↦ inr other ]

  pub here_is : (v : Option (ℕ → List Row)) (p : List ℕ) (k : Part) → (p ≡ project) × (k ≡ part) → With v p k ≡ v
  here_is v p k at = rw (at.0, at.1) (then_is (is_at project part project part) v (parts project part) (at_itself project part))

  pub other_is : (v : Option (ℕ → List Row)) (p : List ℕ) (k : Part) → is_at project part p k ≡ false → With v p k ≡ parts p k
  other_is v p k other = else_is (is_at project part p k) v (parts p k) other

  moved : (v w : Option (ℕ → List Row)) (p : List ℕ) (k : Part) (rows : ℕ → List Row) → is_at project part p k ≡ false → With v p k ≡ Some rows → With w p k ≡ Some rows
  moved v w p k rows other has = other_is w p k other ∙ (sym (other_is v p k other) ∙ has)

  rows_here : (v : ℕ → List Row) (p : List ℕ) (k : Part) (rows : ℕ → List Row) → (p ≡ project) × (k ≡ part) → With (Some v) p k ≡ Some rows → v ≡ rows
  rows_here v p k rows at has = same_some (sym (here_is (Some v) p k at) ∙ has)

  pub not_none : (p : List ℕ) (k : Part) (rows : ℕ → List Row) → (p ≡ project) × (k ≡ part) → With None p k ≡ Some rows → ⊥
  not_none p k rows at has = none_is_some (sym (here_is None p k at) ∙ has)

  module _ (replies : Replies) where
    -- a slot is put for the part, which has no row yet
    pub keeps_slot : (id : ℤ) (old new : Trees) → Keeps old (With None) replies → Puts slot_tree id (Null ∷ Text project ∷ Int (part_number part) ∷ []) old new → Keeps new (With (Some nowhere)) replies
    keeps_slot id old new is puts = record {
      ordered = puts.ordered is.ordered;
      version = subst (λ (rows : List Row). (row : Row) → Has rows row ↔ (row ≡ Int (pos 2) ∷ Null ∷ [])) (sym (puts.others.0 (λ e. omega (arith, e)))) is.version;
      slots = λ row h. elim ((puts.rows row).0 h) [
        | inl same ↦ record { id = id; project = project; part = part; rows = nowhere; has = here_is (Some nowhere) project part (refl, refl); is = same }
        | inr was ↦
            let s = is.slots row was in
            elim (which s.project s.part) [
              | inl at ↦ absurd (not_none s.project s.part s.rows at s.has)
              | inr other ↦ record { id = s.id; project = s.project; part = s.part; rows = s.rows; has = moved None (Some nowhere) s.project s.part s.rows other s.has; is = s.is }
            ]
      ];
      there = λ p k rows has. elim (which p k) [
        | inl at ↦ (id, (puts.rows (slot_row id p k)).1 (inl (rw (at.0, at.1))))
        | inr other ↦ let s = is.there p k rows (moved (Some nowhere) None p k rows other has) in (s.0, (puts.rows _).1 (inr s.1))
      ];
      single = λ a b p k ha hb. elim ((puts.rows _).0 ha) [
        | inl sa ↦ elim ((puts.rows _).0 hb) [
          | inl sb ↦ (slot_is sa).0 ∙ sym (slot_is sb).0
          | inr wb ↦ let s = is.slots _ wb in absurd (not_none s.project s.part s.rows (sym (slot_is s.is).1.0 ∙ (slot_is sa).1.0, sym (slot_is s.is).1.1 ∙ (slot_is sa).1.1) s.has)
        ]
        | inr wa ↦ elim ((puts.rows _).0 hb) [
          | inl sb ↦ let s = is.slots _ wa in absurd (not_none s.project s.part s.rows (sym (slot_is s.is).1.0 ∙ (slot_is sb).1.0, sym (slot_is s.is).1.1 ∙ (slot_is sb).1.1) s.has)
          | inr wb ↦ is.single a b p k wa wb
        ]
      ];
      keyed = subst (λ (rows : List Row). (row : Row) → ((i : ℤ) × Has rows (Int i ∷ row)) ↔ IsReply replies row) (sym (puts.others.1.1.0 (λ e. omega (arith, e)))) is.keyed;
      children = λ t owns row.
          let same = other_tree 1 t old new puts.others owns (is_owned t owns).1.0 in (
            (λ h.
                let o = (is.children t owns row).0 (h.0, rw same at h.1) in
                elim (which o.project o.part) [
                  | inl at ↦ absurd (not_none o.project o.part o.rows at o.has)
                  | inr other ↦ record { id = o.id; project = o.project; part = o.part; rows = o.rows; values = o.values; slot = (puts.rows _).1 (inr o.slot); has = moved None (Some nowhere) o.project o.part o.rows other o.has; listed = o.listed; is = o.is }
                ]),
            (λ (o : IsOwned new (With (Some nowhere)) t row). elim (which o.project o.part) [
              | inl at ↦ absurd (subst (λ (rows : ℕ → List Row). Has (rows t) o.values) (sym (rows_here nowhere o.project o.part o.rows at o.has)) o.listed)
              | inr other ↦ elim ((puts.rows _).0 o.slot) [
                | inl sa ↦ absurd (let at = at_itself project part in let e = slot_is sa in let off = rw (e.1.0, e.1.1) at other in cc)
                | inr was ↦
                    let h = (is.children t owns row).1 (record { id = o.id; project = o.project; part = o.part; rows = o.rows; values = o.values; slot = was; has = moved (Some nowhere) None o.project o.part o.rows other o.has; listed = o.listed; is = o.is }) in
                    (h.0, rw same h.1)
              ]
            ]),
          );
    }

    -- the part's rows are put into one table
    pub keeps_rows : (tree : ℕ) (id : ℤ) (rows : ℕ → List Row) (list : List Row) (old new : Trees) → Has owned tree → Keeps old (With (Some rows)) replies → Has (old 1) (slot_row id project part) → rows tree ≡ []
        → PutsAll tree (map (λ values. Int id ∷ values) list) old new → Keeps new (With (Some (laid tree list rows))) replies
    keeps_rows tree id rows list old new owns is slot empty puts =
        let far = is_owned tree owns in
        let slots_same : new 1 ≡ old 1 = puts.others.1.0 (λ e. far.1.0 (sym e)) in
        let here : With (Some (laid tree list rows)) project part ≡ Some (laid tree list rows) = here_is (Some (laid tree list rows)) project part (refl, refl) in
        record {
          ordered = puts.ordered is.ordered;
          version = subst (λ (x : List Row). (row : Row) → Has x row ↔ (row ≡ Int (pos 2) ∷ Null ∷ [])) (sym (puts.others.0 (λ e. far.0 (sym e)))) is.version;
          slots = λ row h.
              let s = is.slots row (rw slots_same at h) in
              elim (which s.project s.part) [
                | inl at ↦ record { id = s.id; project = s.project; part = s.part; rows = laid tree list rows; has = here_is (Some (laid tree list rows)) s.project s.part at; is = s.is }
                | inr other ↦ record { id = s.id; project = s.project; part = s.part; rows = s.rows; has = moved (Some rows) (Some (laid tree list rows)) s.project s.part s.rows other s.has; is = s.is }
              ];
          there = λ p k r has. rw slots_same (elim (which p k) [
            | inl at ↦ is.there p k rows (here_is (Some rows) p k at)
            | inr other ↦ is.there p k r (moved (Some (laid tree list rows)) (Some rows) p k r other has)
          ]);
          single = λ a b p k ha hb. is.single a b p k (rw slots_same at ha) (rw slots_same at hb);
          keyed = subst (λ (x : List Row). (row : Row) → ((i : ℤ) × Has x (Int i ∷ row)) ↔ IsReply replies row) (sym (puts.others.1.1.0 (λ e. far.1.1 (sym e)))) is.keyed;
          children = λ t owns_t row. elim (same_or_not t tree) [
            | inl same ↦ subst (λ x. Holds new x row ↔ IsOwned new (With (Some (laid tree list rows))) x row) (sym same) (
              (λ h. elim ((puts.rows row).0 h) [
                | inl given ↦
                    let v = from_map (λ values. Int id ∷ values) list row given in
                    record { id = id; project = project; part = part; rows = laid tree list rows; values = v.0; slot = rw slots_same slot; has = here; listed = subst (λ l. Has l v.0) (sym (laid_here tree list rows)) v.1; is = v.2 }
                | inr was ↦
                    let o = (is.children tree owns row).0 was in
                    elim (which o.project o.part) [
                      | inl at ↦ absurd (subst (λ l. Has l o.values) empty (subst (λ (r : ℕ → List Row). Has (r tree) o.values) (sym (rows_here rows o.project o.part o.rows at o.has)) o.listed))
                      | inr other ↦ record { id = o.id; project = o.project; part = o.part; rows = o.rows; values = o.values; slot = rw slots_same o.slot; has = moved (Some rows) (Some (laid tree list rows)) o.project o.part o.rows other o.has; listed = o.listed; is = o.is }
                    ]
              ]),
              (λ (o : IsOwned new (With (Some (laid tree list rows))) tree row). elim (which o.project o.part) [
                | inl at ↦
                    let mine = subst (λ (r : ℕ → List Row). Has (r tree) o.values) (sym (rows_here (laid tree list rows) o.project o.part o.rows at o.has)) o.listed in
                    let one : o.id ≡ id = is.single o.id id project part (subst (λ (x : List ℕ × Part). Has (old 1) (slot_row o.id x.0 x.1)) (pair at.0 at.1) (rw slots_same at o.slot)) slot in
                    (puts.rows row).1 (inl (subst (Has (map (λ values. Int id ∷ values) list)) (sym (o.is ∙ ap (λ (i : ℤ). Int i ∷ o.values) one)) (to_map (λ values. Int id ∷ values) list o.values (subst (λ l. Has l o.values) (laid_here tree list rows) mine))))
                | inr other ↦
                    (puts.rows row).1 (inr ((is.children tree owns row).1 (record { id = o.id; project = o.project; part = o.part; rows = o.rows; values = o.values; slot = rw slots_same at o.slot; has = moved (Some (laid tree list rows)) (Some rows) o.project o.part o.rows other o.has; listed = o.listed; is = o.is })))
              ]),
            )
            | inr differ ↦
                let same = other_tree tree t old new puts.others owns_t differ in (
                  (λ h.
                      let o = (is.children t owns_t row).0 (h.0, rw same at h.1) in
                      elim (which o.project o.part) [
                        | inl at ↦ record {
                          id = o.id;
                          project = o.project;
                          part = o.part;
                          rows = laid tree list rows;
                          values = o.values;
                          slot = rw slots_same o.slot;
                          has = here_is (Some (laid tree list rows)) o.project o.part at;
                          listed = subst (λ l. Has l o.values) (sym (laid_other tree t list rows differ)) (subst (λ (r : ℕ → List Row). Has (r t) o.values) (sym (rows_here rows o.project o.part o.rows at o.has)) o.listed);
                          is = o.is;
                        }
                        | inr other ↦ record { id = o.id; project = o.project; part = o.part; rows = o.rows; values = o.values; slot = rw slots_same o.slot; has = moved (Some rows) (Some (laid tree list rows)) o.project o.part o.rows other o.has; listed = o.listed; is = o.is }
                      ]),
                  (λ (o : IsOwned new (With (Some (laid tree list rows))) t row).
                      let h = (is.children t owns_t row).1 (elim (which o.project o.part) [
                        | inl at ↦ record {
                          id = o.id;
                          project = o.project;
                          part = o.part;
                          rows = rows;
                          values = o.values;
                          slot = rw slots_same at o.slot;
                          has = here_is (Some rows) o.project o.part at;
                          listed = subst (λ l. Has l o.values) (laid_other tree t list rows differ) (subst (λ (r : ℕ → List Row). Has (r t) o.values) (sym (rows_here (laid tree list rows) o.project o.part o.rows at o.has)) o.listed);
                          is = o.is;
                        }
                        | inr other ↦ record { id = o.id; project = o.project; part = o.part; rows = o.rows; values = o.values; slot = rw slots_same at o.slot; has = moved (Some (laid tree list rows)) (Some rows) o.project o.part o.rows other o.has; listed = o.listed; is = o.is }
                      ]) in
                      (h.0, rw same h.1)),
                )
          ];
        }

-- ---- the kept replies

-- a reply is kept
pub keeps_reply : (parts : Contents) (replies : Replies) (project key reply : List ℕ) (old new : Trees) → Keeps old parts replies → replies project key ≡ None
    → PutsAll keyed_tree ((Text project ∷ Text key ∷ Text reply ∷ []) ∷ []) old new → Keeps new parts (kept replies project key reply)
keeps_reply parts replies project key reply old new is free puts =
    let slots_same : new 1 ≡ old 1 = puts.others.1.0 (λ e. omega (arith, e)) in
    record {
      ordered = puts.ordered is.ordered;
      version = subst (λ (x : List Row). (row : Row) → Has x row ↔ (row ≡ Int (pos 2) ∷ Null ∷ [])) (sym (puts.others.0 (λ e. omega (arith, e)))) is.version;
      slots = λ row h. is.slots row (rw slots_same at h);
      there = λ p k r has. rw slots_same (is.there p k r has);
      single = λ a b p k ha hb. is.single a b p k (rw slots_same at ha) (rw slots_same at hb);
      keyed = λ row. (
        (λ h. elim ((puts.rows row).0 h) [
          | inl given ↦ elim given [
            | inl e ↦ record { project = project; key = key; reply = reply; has = then_is (is_key project key project key) (Some reply) (replies project key) (rw (same_text_itself project, same_text_itself key)); is = e }
            | inr none ↦ absurd none
          ]
          | inr was ↦
              let r = (is.keyed row).0 was in
              elim (cases_Bool (is_key project key r.project r.key)) [
                | inl at ↦ absurd (let k = key_is project key r.project r.key at in none_is_some (sym free ∙ subst (λ (x : List ℕ × List ℕ). replies x.0 x.1 ≡ Some r.reply) (pair k.0 k.1) r.has))
                | inr other ↦ record { project = r.project; key = r.key; reply = r.reply; has = else_is (is_key project key r.project r.key) (Some reply) (replies r.project r.key) other ∙ r.has; is = r.is }
              ]
        ]),
        (λ (r : IsReply (kept replies project key reply) row). elim (cases_Bool (is_key project key r.project r.key)) [
          | inl at ↦
              let k = key_is project key r.project r.key at in
              let e = same_some (sym (then_is (is_key project key r.project r.key) (Some reply) (replies r.project r.key) at) ∙ r.has) in
              (puts.rows row).1 (inl (inl (rw (r.is, k.0, k.1, ← e))))
          | inr other ↦ (puts.rows row).1 (inr ((is.keyed row).1 (record { project = r.project; key = r.key; reply = r.reply; has = sym (else_is (is_key project key r.project r.key) (Some reply) (replies r.project r.key) other) ∙ r.has; is = r.is })))
        ]),
      );
      children = λ t owns row.
          let same = other_tree 3 t old new puts.others owns (is_owned t owns).1.1 in (
            (λ h. let o = (is.children t owns row).0 (h.0, rw same at h.1) in record { id = o.id; project = o.project; part = o.part; rows = o.rows; values = o.values; slot = rw slots_same o.slot; has = o.has; listed = o.listed; is = o.is }),
            (λ (o : IsOwned new parts t row).
                let h = (is.children t owns row).1 (record { id = o.id; project = o.project; part = o.part; rows = o.rows; values = o.values; slot = rw slots_same at o.slot; has = o.has; listed = o.listed; is = o.is }) in
                (h.0, rw same h.1)),
          );
    }
