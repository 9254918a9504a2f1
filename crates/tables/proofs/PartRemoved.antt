-- DELETE FROM slot takes out one part, and nothing else.
use Rattle.std.proofs.Common.{arith, ◌≡◌, ◌≢◌, ◌↔◌, ◌&&◌, inl, inr, ℕ, ℤ, Bool, true, false, List, [], ◌∷◌, map, Some, None, refl, sym, ap, subst, ◌∙◌, int_cmp, is_eq}
use Rattle.std.specs.List.{list_all, list_any}
use Rattle.std.specs.List.Sorted.{IsPermutation}
use Rattle.std.proofs.lemmas.Bool.{cases_Bool}
use Rattle.std.proofs.lemmas.List.Sorted.{IsPermutation-sym}
use Rattle.sqlite_value.specs.Order.{Row}
use Rattle.sqlite_value.specs.Keys.{plain, first_key}
use Rattle.sqlite_value.proofs.OrderLemmas.{value_cmp-Int, value_cmp-Text}
use Rattle.sqlite_value.specs.declared.value.Value.TheVariants.{Int, Text}
use Rattle.sqlite_schema.specs.declared.schema.Table.{Table}
use Rattle.sqlite_schema.specs.Rules.{agree}
use Rattle.sqlite_sql.specs.Term.{col, holds, eval_all}
use Rattle.sqlite_sql.specs.Ops.{binary, is_true, from_truth}
use Rattle.sqlite_trees.specs.Tree.{Trees, rowid, has_rowid}
use Rattle.sqlite_rules.specs.Lists.{Has}
use Rattle.sqlite_rules.specs.Edit.{id_in, row_at}
use Rattle.sqlite_rules.specs.Calls.{ids_of}
use Rattle.sqlite_rules.specs.Action.{Work, pairs, loses, is_child_of}
use Rattle.sqlite_rules.proofs.ListLemmas.{all_has, all_from, has_filtered, has_kept, some_has, some_from}
use Rattle.sqlite_rules.proofs.PlaceLemmas.{tied_same, row_at_is}
use Rattle.tables.specs.Steps.Queries.{by_project_and_part}
use Rattle.tables.specs.Schema.{schema_two, format, slot, keyed, document, range_row, item, hover, mark, bearer, tag, part_profile, more}
use Rattle.sqlite_trees.proofs.ListLemmas.{all-permutation}
use Rattle.tables.specs.Contents.{Contents, Replies, slot_row, IsOwned, owned, Keeps, same_text, is_at, changed}
use Rattle.tables.specs.Parts.{part_number}
use Rattle.tables.specs.declared.slots.Part.{Part}
use Rattle.tables.specs.TableTrees.{slot_tree}
use Rattle.tables.proofs.Cascade.{is_hit, Lacks, left_from, left_has, equal_is}
use Rattle.tables.proofs.Removal.{IsOn, at_slot, each_on, works_are, Removed}
use Rattle.tables.proofs.Keeping.{same_int_is, same_int_itself, numbers_are, at_is, at_itself, from_map, to_map, table_of, is_owned, which, other_is, not_none, slot_is}

pub truly : (b : Bool) → is_true (from_truth (Some b)) ≡ b
truly true = refl
truly false = refl

-- the statement's tests are those of one project and kind of part
pub tests_are : (p : List ℕ) (k : Part) (id : ℤ) (q : List ℕ) (j : Part) → list_all (holds ((Text p ∷ Int (part_number k) ∷ []) ∷ slot_row id q j ∷ [])) by_project_and_part ≡ is_at p k q j
unfolding binary
tests_are p k id q j = rw (value_cmp-Text q p, value_cmp-Int (part_number j) (part_number k), truly (same_text q p), truly (is_eq (int_cmp (part_number j) (part_number k))), numbers_are j k)

-- a row of a child goes where its first column is the id
child_is : (i s id : ℤ) (values : Row) (p : List ℕ) (k : Part)
    → (loses plain (0 ∷ []) (slot_row id p k, []) && agree plain (1 ∷ []) (Int i ∷ Int s ∷ values) (0 ∷ []) (slot_row id p k)) ≡ (is_eq (int_cmp s id) && true)
unfolding binary first_key
child_is i s id values p k = rw (value_cmp-Int id id, value_cmp-Int s id, same_int_itself id, truly (is_eq (int_cmp s id)))

loses_is : (id : ℤ) (p : List ℕ) (k : Part) → loses plain (0 ∷ []) (slot_row id p k, []) ≡ true
unfolding binary first_key
loses_is id p k = rw (value_cmp-Int id id, same_int_itself id)

child_test : (olds : List Row) (t : Table) (w : Work) → IsOn olds t w → (row : Row) (m o : Row × Row) → m ≡ o → is_child_of w row m ≡ true → (loses plain (0 ∷ []) o && agree plain (1 ∷ []) row (0 ∷ []) o.0) ≡ true
child_test olds t w on row m o same h = rw (on.order, on.refers, on.places, same) at h

pub plainly_true : (b : Bool) → (b && true) ≡ true → b ≡ true
plainly_true true h = refl
plainly_true false h = h

pub has_permuted : {X : Type 0} (xs ys : List X) (x : X) → IsPermutation xs ys → Has ys x → Has xs x
has_permuted xs ys x same = all_has (Has xs) ys x (all-permutation (Has xs) xs ys same (all_from (Has xs) xs (λ e h. h)))

slots_at : (id : ℤ) {q p : List ℕ} {j k : Part} → q ≡ p → j ≡ k → slot_row id q j ≡ slot_row id p k
slots_at id e f = rw (e, f)

pairs_from : (olds : List Row) (m : Row × Row) → Has (pairs olds []) m → (o : Row) × Has olds o × (m ≡ (o, []))
pairs_from [] m h = absurd h
pairs_from (o ∷ olds) m (inl e) = (o, inl refl, e)
pairs_from (o ∷ olds) m (inr h) = let r = pairs_from olds m h in (r.0, inr r.1, r.2)

pairs_to : (olds : List Row) (o : Row) → Has olds o → Has (pairs olds []) (o, [])
pairs_to [] o h = absurd h
pairs_to (x ∷ olds) o (inl e) = inl (ap (λ (y : Row). (y, [])) e)
pairs_to (x ∷ olds) o (inr h) = inr (pairs_to olds o h)

abbrev each : List Row → List Work
each olds = at_slot olds document ∷ at_slot olds range_row ∷ at_slot olds item ∷ at_slot olds hover ∷ at_slot olds mark ∷ at_slot olds bearer ∷ at_slot olds tag ∷ at_slot olds part_profile ∷ at_slot olds more ∷ []

at_work : (olds : List Row) (t : ℕ) → Has owned t → (table : Table) × (table.tree ≡ t) × Has (each olds) (at_slot olds table)
at_work olds t (inl e) = (document, sym e, inl refl)
at_work olds t (inr (inl e)) = (range_row, sym e, inr (inl refl))
at_work olds t (inr (inr (inl e))) = (item, sym e, inr (inr (inl refl)))
at_work olds t (inr (inr (inr (inl e)))) = (hover, sym e, inr (inr (inr (inl refl))))
at_work olds t (inr (inr (inr (inr (inl e))))) = (mark, sym e, inr (inr (inr (inr (inl refl)))))
at_work olds t (inr (inr (inr (inr (inr (inl e)))))) = (bearer, sym e, inr (inr (inr (inr (inr (inl refl))))))
at_work olds t (inr (inr (inr (inr (inr (inr (inl e))))))) = (tag, sym e, inr (inr (inr (inr (inr (inr (inl refl)))))))
at_work olds t (inr (inr (inr (inr (inr (inr (inr (inl e)))))))) = (part_profile, sym e, inr (inr (inr (inr (inr (inr (inr (inl refl))))))))
at_work olds t (inr (inr (inr (inr (inr (inr (inr (inr (inl e))))))))) = (more, sym e, inr (inr (inr (inr (inr (inr (inr (inr (inl refl)))))))))
at_work olds t (inr (inr (inr (inr (inr (inr (inr (inr (inr none))))))))) = absurd none

module _ (parts : Contents) (replies : Replies) (p : List ℕ) (k : Part) (old new : Trees) (is : Keeps old parts replies) (r : Removed (Text p ∷ Int (part_number k) ∷ []) by_project_and_part old new) where
  abbrev ids : List ℤ
  ids = ids_of r.rows

  abbrev mid : Trees
  mid = r.taken.mid

  abbrev olds : List Row
  olds = map (row_at (old 1)) ids

  -- what is taken out is the part's slot
  pub id_from : (id : ℤ) → Has ids id → Has (old 1) (slot_row id p k)
  id_from id h =
      let row = from_map (λ x. id_in (rowid x)) r.rows id h in
      let y = from_map (λ x. eval_all (col 1 0 ∷ []) ((Text p ∷ Int (part_number k) ∷ []) ∷ x ∷ [])) _ row.0 (has_permuted _ r.rows row.0 r.selected row.1) in
      let good = has_filtered (λ x. list_all (holds ((Text p ∷ Int (part_number k) ∷ []) ∷ x ∷ [])) by_project_and_part) (old 1) y.0 y.1 in
      let s = is.slots y.0 good.0 in
      let at = at_is p k s.project s.part (sym (tests_are p k s.id s.project s.part) ∙ subst (λ x. list_all (holds ((Text p ∷ Int (part_number k) ∷ []) ∷ x ∷ [])) by_project_and_part ≡ true) s.is good.1) in
      let mine : y.0 ≡ slot_row s.id p k = s.is ∙ slots_at s.id at.0 at.1 in
      let one : id ≡ s.id = row.2 ∙ (ap (λ x. id_in (rowid x)) y.2 ∙ ap (λ x. id_in (rowid (eval_all (col 1 0 ∷ []) ((Text p ∷ Int (part_number k) ∷ []) ∷ x ∷ [])))) mine) in
      subst (Has (old 1)) (mine ∙ ap (λ (i : ℤ). slot_row i p k) (sym one)) good.0

  pub id_to : (id : ℤ) → Has (old 1) (slot_row id p k) → Has ids id
  id_to id h =
      let good = has_kept (λ x. list_all (holds ((Text p ∷ Int (part_number k) ∷ []) ∷ x ∷ [])) by_project_and_part) (old 1) (slot_row id p k) h (tests_are p k id p k ∙ at_itself p k) in
      to_map (λ x. id_in (rowid x)) r.rows (Int id ∷ []) (has_permuted r.rows _ _ (IsPermutation-sym _ _ r.selected) (to_map (λ x. eval_all (col 1 0 ∷ []) ((Text p ∷ Int (part_number k) ∷ []) ∷ x ∷ [])) _ (slot_row id p k) good))

  -- two slots of one id are one
  pub same_slot : (id : ℤ) (q : List ℕ) (j : Part) → Has (old 1) (slot_row id q j) → Has (old 1) (slot_row id p k) → (q ≡ p) × (j ≡ k)
  same_slot id q j a b = (slot_is (tied_same (old 1) (slot_row id q j) (slot_row id p k) (is.ordered slot (inr (inl refl))).rises a b (value_cmp-Int id id ∙ equal_is _ (same_int_itself id)))).1

  old_row : (id : ℤ) → Has ids id → row_at (old 1) id ≡ slot_row id p k
  old_row id h = row_at_is (old 1) id (slot_row id p k) (is.ordered slot (inr (inl refl))).rises (id_from id h) (ap is_eq (value_cmp-Int id id) ∙ same_int_itself id)

  -- ---- tables that belong to no slot

  unhit : (t : Table) → Has schema_two.tables t → (Has owned t.tree → ⊥) → (row : Row) → Has (new t.tree) row ↔ Has (mid t.tree) row
  unhit t listed free row =
      let cut = r.taken.cut t listed in (
        cut.kept row,
        (λ h. cut.rest row h (λ w there on. let it = each_on olds w there in absurd (free (subst (Has owned) (ap (λ (x : Table). x.tree) (sym it.2.child) ∙ on) it.2.owns)))),
      )

  slot_kept : (row : Row) → Has (new 1) row → Has (old 1) row × Lacks ids row
  slot_kept row h = left_from ids (old 1) row (subst (λ l. Has l row) r.taken.slots ((unhit slot (inr (inl refl)) (λ owns. (is_owned 1 owns).1.0 refl) row).0 h))

  slot_stays : (row : Row) → Has (old 1) row → Lacks ids row → Has (new 1) row
  slot_stays row h lacks = (unhit slot (inr (inl refl)) (λ owns. (is_owned 1 owns).1.0 refl) row).1 (subst (λ l. Has l row) (sym r.taken.slots) (left_has ids (old 1) row h lacks))

  other_stays : (id : ℤ) (q : List ℕ) (j : Part) → is_at p k q j ≡ false → Has (old 1) (slot_row id q j) → Has (new 1) (slot_row id q j)
  other_stays id q j other h = slot_stays (slot_row id q j) h (λ i taken. elim (cases_Bool (has_rowid i (slot_row id q j))) [
    | inl here ↦
        let one : id ≡ i = same_int_is id i (sym (ap is_eq (value_cmp-Int id i)) ∙ here) in
        let at = same_slot id q j h (subst (λ (x : ℤ). Has (old 1) (slot_row x p k)) (sym one) (id_from i taken)) in
        absurd (let yes = at_itself p k in let off = rw (at.0, at.1) at other in cc)
    | inr off ↦ off
  ])

  mine_goes : (id : ℤ) → Has (new 1) (slot_row id p k) → ⊥
  mine_goes id h =
      let was = slot_kept (slot_row id p k) h in
      let off = was.1 id (id_to id was.0) in
      let here : has_rowid id (slot_row id p k) ≡ true = ap is_eq (value_cmp-Int id id) ∙ same_int_itself id in
      cc

  -- ---- tables whose rows belong to slots

  hit_from : (t : Table) (w : Work) → IsOn olds t w → (i s : ℤ) (values : Row) → is_hit w (Int i ∷ Int s ∷ values) ≡ true → Has ids s
  hit_from t w on i s values h =
      let m = some_has (is_child_of w (Int i ∷ Int s ∷ values)) w.moves h in
      let o = pairs_from olds m.0 (subst (λ l. Has l m.0) on.moves m.1) in
      let id = from_map (row_at (old 1)) ids o.0 o.1 in
      let move : m.0 ≡ (slot_row id.0 p k, []) = o.2 ∙ ap (λ (x : Row). (x, [])) (id.2 ∙ old_row id.0 id.1) in
      let test : (loses plain (0 ∷ []) (slot_row id.0 p k, []) && agree plain (1 ∷ []) (Int i ∷ Int s ∷ values) (0 ∷ []) (slot_row id.0 p k)) ≡ true = child_test olds t w on (Int i ∷ Int s ∷ values) m.0 (slot_row id.0 p k, []) move m.2 in
      let one : s ≡ id.0 = same_int_is s id.0 (plainly_true _ (sym (child_is i s id.0 values p k) ∙ test)) in
      subst (Has ids) (sym one) id.1

  hit_to : (t : Table) → (i s : ℤ) (values : Row) → Has ids s → is_hit (at_slot olds t) (Int i ∷ Int s ∷ values) ≡ true
  hit_to t i s values h =
      let row = subst (Has olds) (old_row s h) (to_map (row_at (old 1)) ids s h) in
      some_from (is_child_of (at_slot olds t) (Int i ∷ Int s ∷ values)) (pairs olds []) (slot_row s p k, []) (pairs_to olds (slot_row s p k) row) (child_is i s s values p k ∙ ap (λ b. b && true) (same_int_itself s))

  lost : (s : ℤ) → Has ids s → list_any (loses plain (0 ∷ [])) (pairs olds []) ≡ true
  lost s h = some_from (loses plain (0 ∷ [])) (pairs olds []) (slot_row s p k, []) (pairs_to olds (slot_row s p k) (subst (Has olds) (old_row s h) (to_map (row_at (old 1)) ids s h))) (loses_is s p k)

  child_gone : (t : ℕ) → Has owned t → (i s : ℤ) (values : Row) → Has (new t) (Int i ∷ Int s ∷ values) → Has ids s → ⊥
  child_gone t owns i s values h taken =
      let w = at_work olds t owns in
      let it = table_of t owns in
      let listed = subst (λ l. Has l (at_slot olds w.0)) (sym (works_are olds (lost s taken))) w.2 in
      let miss = (r.taken.cut it.0 it.1).missed (Int i ∷ Int s ∷ values) (subst (λ x. Has (new x) (Int i ∷ Int s ∷ values)) (sym it.2) h) (at_slot olds w.0) listed (w.1 ∙ sym it.2) in
      let hit = hit_to w.0 i s values taken in
      cc

  mid_is : (t : ℕ) → Has owned t → mid t ≡ old t
  mid_is t owns =
      let it = table_of t owns in
      subst (λ x. mid x ≡ old x) it.2 (all_has (λ (x : Table). x.tree ≢ 1 → mid x.tree ≡ old x.tree) schema_two.tables it.0 r.taken.others it.1 (λ e. (is_owned t owns).1.0 (sym it.2 ∙ e)))

  child_was : (t : ℕ) → Has owned t → (row : Row) → Has (new t) row → Has (old t) row
  child_was t owns row h =
      let it = table_of t owns in
      subst (λ l. Has l row) (mid_is t owns) (subst (λ x. Has (mid x) row) it.2 ((r.taken.cut it.0 it.1).kept row (subst (λ x. Has (new x) row) (sym it.2) h)))

  child_stays : (t : ℕ) → Has owned t → (i s : ℤ) (values : Row) → Has (old t) (Int i ∷ Int s ∷ values) → (Has ids s → ⊥) → Has (new t) (Int i ∷ Int s ∷ values)
  child_stays t owns i s values h free =
      let it = table_of t owns in
      subst (λ x. Has (new x) (Int i ∷ Int s ∷ values)) it.2 ((r.taken.cut it.0 it.1).rest (Int i ∷ Int s ∷ values) (subst (λ x. Has (mid x) (Int i ∷ Int s ∷ values)) (sym it.2) (subst (λ l. Has l (Int i ∷ Int s ∷ values)) (sym (mid_is t owns)) h))
      (λ w there on. let e = each_on olds w there in elim (cases_Bool (is_hit w (Int i ∷ Int s ∷ values))) [ inl hit ↦ absurd (free (hit_from e.0 w e.2 i s values hit)) | inr miss ↦ miss ]))

  quiet : (t : Table) → Has schema_two.tables t → (Has owned t.tree → ⊥) → t.tree ≢ slot_tree → (row : Row) → Has (new t.tree) row ↔ Has (old t.tree) row
  quiet t listed free other row =
      let same = all_has (λ (x : Table). x.tree ≢ 1 → mid x.tree ≡ old x.tree) schema_two.tables t r.taken.others listed other in
      ((λ h. rw same at ((unhit t listed free row).0 h)), (λ h. (unhit t listed free row).1 (rw same h)))

  -- the tables represent the state without the part
  pub keeps_drop : Keeps new (changed parts p k None) replies
  keeps_drop = record {
    ordered = r.taken.ordered;
    version = λ row. let q = quiet format (inl refl) (λ owns. (is_owned 0 owns).0 refl) (λ e. omega (arith, e)) row in ((λ h. (is.version row).0 (q.0 h)), (λ e. q.1 ((is.version row).1 e)));
    slots = λ row h.
        let s = is.slots row (slot_kept row h).0 in
        elim (which parts p k s.project s.part) [
          | inl at ↦ absurd (mine_goes s.id (subst (Has (new 1)) (s.is ∙ slots_at s.id at.0 at.1) h))
          | inr other ↦ record { id = s.id; project = s.project; part = s.part; rows = s.rows; has = other_is parts p k None s.project s.part other ∙ s.has; is = s.is }
        ];
    there = λ q j rows has. elim (which parts p k q j) [
      | inl at ↦ absurd (not_none parts p k q j rows at has)
      | inr other ↦ let s = is.there q j rows (sym (other_is parts p k None q j other) ∙ has) in (s.0, other_stays s.0 q j other s.1)
    ];
    single = λ a b q j ha hb. is.single a b q j (slot_kept _ ha).0 (slot_kept _ hb).0;
    keyed = λ row. (
      (λ h. (is.keyed row).0 (h.0, (quiet keyed (inr (inr (inl refl))) (λ owns. (is_owned 3 owns).1.1 refl) (λ e. omega (arith, e)) (Int h.0 ∷ row)).0 h.1)),
      (λ e. let h = (is.keyed row).1 e in (h.0, (quiet keyed (inr (inr (inl refl))) (λ owns. (is_owned 3 owns).1.1 refl) (λ z. omega (arith, z)) (Int h.0 ∷ row)).1 h.1)),
    );
    children = λ t owns row. (
      (λ h.
          let o = (is.children t owns row).0 (h.0, child_was t owns (Int h.0 ∷ row) h.1) in
          elim (which parts p k o.project o.part) [
            | inl at ↦ absurd (child_gone t owns h.0 o.id o.values (subst (λ (x : Row). Has (new t) (Int h.0 ∷ x)) o.is h.1) (id_to o.id (subst (Has (old 1)) (slots_at o.id at.0 at.1) o.slot)))
            | inr other ↦ record { id = o.id; project = o.project; part = o.part; rows = o.rows; values = o.values; slot = other_stays o.id o.project o.part other o.slot; has = other_is parts p k None o.project o.part other ∙ o.has; listed = o.listed; is = o.is }
          ]),
      (λ (o : IsOwned new (changed parts p k None) t row). elim (which parts p k o.project o.part) [
        | inl at ↦ absurd (not_none parts p k o.project o.part o.rows at o.has)
        | inr other ↦
            let was = (slot_kept _ o.slot).0 in
            let h = (is.children t owns row).1 (record { id = o.id; project = o.project; part = o.part; rows = o.rows; values = o.values; slot = was; has = sym (other_is parts p k None o.project o.part other) ∙ o.has; listed = o.listed; is = o.is }) in
            let stays = child_stays t owns h.0 o.id o.values (subst (λ (x : Row). Has (old t) (Int h.0 ∷ x)) o.is h.1)
            (λ taken. let at = same_slot o.id o.project o.part was (id_from o.id taken) in let yes = at_itself p k in let off = rw (at.0, at.1) at other in cc) in
            (h.0, subst (λ (x : Row). Has (new t) (Int h.0 ∷ x)) (sym o.is) stays)
      ]),
    );
  }
