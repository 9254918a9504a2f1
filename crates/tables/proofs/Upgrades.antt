-- Tables that were upgraded represent the state that those of format 1 represented.
use Rattle.std.proofs.Common.{arith, ◌≡◌, ◌≢◌, ◌⊎◌, ◌↔◌, ◌&&◌, inl, inr, ℕ, ℤ, pos, true, List, [], ◌∷◌, Option, Some, None, refl, sym, ap, subst, ◌∙◌, int_cmp, is_eq}
use Rattle.std.specs.List.{list_all}
use Rattle.sqlite_value.specs.Order.{Row}
use Rattle.sqlite_value.specs.declared.value.Value.TheVariants.{Int, Null}
use Rattle.sqlite_value.proofs.OrderLemmas.{value_cmp-Int}
use Rattle.sqlite_sql.specs.Term.{holds, eval_all}
use Rattle.sqlite_sql.specs.Ops.{binary}
use Rattle.sqlite_schema.specs.declared.schema.Table.{Table}
use Rattle.sqlite_trees.specs.Tree.{Trees}
use Rattle.sqlite_rules.specs.Lists.{Has}
use Rattle.sqlite_rules.proofs.ListLemmas.{all_has, has_filtered, has_kept}
use Rattle.sqlite.specs.State as sqlite
use Rattle.dump.specs.Progress.{DumpValue}
use Rattle.tags.specs.Values.{TagValue}
use Rattle.lsif.specs.declared.profile.Profile.TheVariants.{One}
use Rattle.tables.specs.Columns.{profile_columns}
use Rattle.tables.specs.Schema.{schema_one, schema_two, format, slot, keyed, document, range_row, item, hover, mark, bearer, tag}
use Rattle.tables.specs.Databases.{IsOrdered, AllOrdered, AreNumbered, Holds, WasUpgraded, IsUpgraded, IsFormatOne, chosen, dump_tests, profile_shown}
use Rattle.tables.specs.Contents.{Contents, Replies, Keeps, KeepsOne, IsOwned, IsReply, slot_row, owned, owned_one}
use Rattle.tables.specs.Stands.{Each, IsDump, IsDumpOne, AreTags, StandsFor, StandsForOne, Rests, RestsOne, replies_of}
use Rattle.machine.specs.State.{State}
use Rattle.tables.specs.Parts.{part_number}
use Rattle.tables.specs.declared.slots.Part.{Part}
use Rattle.tables.specs.declared.slots.Part.TheVariants.{Dump, Tags}
use Rattle.tables.specs.TableTrees.{format_tree}
use Rattle.tables.proofs.Empty.{one_row, version_ordered, version_is}
use Rattle.tables.proofs.Keeping.{from_map, to_map, number_is, which_part, same_int_is, same_int_itself}
use Rattle.tables.proofs.PartRemoved.{truly, plainly_true}

-- ---- the rows of a part that format 2 has besides

-- what a part has in `part_profile` and in `more`
abbrev HasBesides : Contents → Type 0
HasBesides parts = (project : List ℕ) (part : Part) (rows : ℕ → List Row) → parts project part ≡ Some rows
    → (rows 24 ≡ []) × (((part ≡ Dump) × (rows 22 ≡ profile_columns One ∷ [])) ⊎ ((part ≡ Tags) × (rows 22 ≡ [])))

no_dump : {part : Part} → part ≡ Tags → part ≡ Dump → ⊥
no_dump tags dump = let e = sym tags ∙ dump in cc

-- the statement's test is that of a dump's slot
dump_test : (id : ℤ) (q : List ℕ) (j : Part) → list_all (holds ([] ∷ slot_row id q j ∷ [])) dump_tests ≡ (is_eq (int_cmp (part_number j) (pos 1)) && true)
unfolding binary
dump_test id q j = rw (value_cmp-Int (part_number j) (pos 1), truly (is_eq (int_cmp (part_number j) (pos 1))))

module _ (old new : Trees) (parts : Contents) (replies : Replies) (is : KeepsOne old parts replies) (up : WasUpgraded old new) (besides : HasBesides parts) where
  same : (t : Table) → Has schema_one.tables t → t.tree ≢ format_tree → new t.tree ≡ old t.tree
  same t listed other = all_has (λ (x : Table). x.tree ≢ 0 → new x.tree ≡ old x.tree) schema_one.tables t up.others listed other

  slots_same : new 1 ≡ old 1
  slots_same = same slot (inr (inl refl)) (λ e. omega (arith, e))

  numbered : AreNumbered (old 1)
  numbered = (is.ordered slot (inr (inl refl))).numbered

  profile_from : (row : Row) → Has (chosen dump_tests profile_shown [] (old 1)) row → IsOwned new parts 22 row
  profile_from row h =
      let y = from_map (λ x. eval_all profile_shown ([] ∷ x ∷ [])) _ row h in
      let good = has_filtered (λ x. list_all (holds ([] ∷ x ∷ [])) dump_tests) (old 1) y.0 y.1 in
      let s = is.slots y.0 good.0 in
      let dump : s.part ≡ Dump = number_is s.part Dump (same_int_is (part_number s.part) (pos 1) (plainly_true _ (sym (dump_test s.id s.project s.part) ∙ subst (λ x. list_all (holds ([] ∷ x ∷ [])) dump_tests ≡ true) s.is good.1))) in
      let b = besides s.project s.part s.rows s.has in
      let rows : s.rows 22 ≡ profile_columns One ∷ [] = elim b.1 [ inl one ↦ one.1 | inr other ↦ absurd (no_dump other.0 dump) ] in
      record {
        id = s.id;
        project = s.project;
        part = s.part;
        rows = s.rows;
        values = profile_columns One;
        slot = subst (λ l. Has l (slot_row s.id s.project s.part)) (sym slots_same) (subst (Has (old 1)) s.is good.0);
        has = s.has;
        listed = subst (λ l. Has l (profile_columns One)) (sym rows) (inl refl);
        is = y.2 ∙ ap (λ x. eval_all profile_shown ([] ∷ x ∷ [])) s.is;
      }

  profile_to : (row : Row) → IsOwned new parts 22 row → Has (chosen dump_tests profile_shown [] (old 1)) row
  profile_to row o =
      let b = besides o.project o.part o.rows o.has in
      elim b.1 [
        | inr other ↦ absurd (subst (λ l. Has l o.values) other.1 o.listed)
        | inl one ↦
            let values : o.values ≡ profile_columns One = elim (subst (λ l. Has l o.values) one.1 o.listed) [ inl e ↦ e | inr none ↦ absurd none ] in
            let there = subst (λ l. Has l (slot_row o.id o.project o.part)) slots_same o.slot in
            let passes = dump_test o.id o.project o.part ∙ ap (λ b. b && true) (ap (λ (k : Part). is_eq (int_cmp (part_number k) (pos 1))) one.0 ∙ same_int_itself (pos 1)) in
            let kept = has_kept (λ x. list_all (holds ([] ∷ x ∷ [])) dump_tests) (old 1) (slot_row o.id o.project o.part) there passes in
            subst (Has (chosen dump_tests profile_shown [] (old 1))) (sym (o.is ∙ ap (λ (v : Row). Int o.id ∷ v) values)) (to_map (λ x. eval_all profile_shown ([] ∷ x ∷ [])) _ (slot_row o.id o.project o.part) kept)
      ]

  -- a table that format 1 has, too
  child : (t : ℕ) → Has owned_one t → new t ≡ old t → (row : Row) → Holds new t row ↔ IsOwned new parts t row
  child t owns still row = (
    (λ h.
        let o = (is.children t owns row).0 (h.0, rw still at h.1) in
        record { id = o.id; project = o.project; part = o.part; rows = o.rows; values = o.values; slot = rw slots_same o.slot; has = o.has; listed = o.listed; is = o.is }),
    (λ (o : IsOwned new parts t row).
        let h = (is.children t owns row).1 (record { id = o.id; project = o.project; part = o.part; rows = o.rows; values = o.values; slot = rw slots_same at o.slot; has = o.has; listed = o.listed; is = o.is }) in
        (h.0, rw still h.1)),
  )

  children : (t : ℕ) → Has owned t → (row : Row) → Holds new t row ↔ IsOwned new parts t row
  children t (inl e) row = subst (λ (x : ℕ). Holds new x row ↔ IsOwned new parts x row) (sym e) (child 5 (inl refl) (same document (inr (inr (inr (inl refl)))) (λ z. omega (arith, z))) row)
  children t (inr (inl e)) row = subst (λ (x : ℕ). Holds new x row ↔ IsOwned new parts x row) (sym e) (child 7 (inr (inl refl)) (same range_row (inr (inr (inr (inr (inl refl))))) (λ z. omega (arith, z))) row)
  children t (inr (inr (inl e))) row = subst (λ (x : ℕ). Holds new x row ↔ IsOwned new parts x row) (sym e) (child 9 (inr (inr (inl refl))) (same item (inr (inr (inr (inr (inr (inl refl)))))) (λ z. omega (arith, z))) row)
  children t (inr (inr (inr (inl e)))) row = subst (λ (x : ℕ). Holds new x row ↔ IsOwned new parts x row) (sym e) (child 11 (inr (inr (inr (inl refl)))) (same hover (inr (inr (inr (inr (inr (inr (inl refl))))))) (λ z. omega (arith, z))) row)
  children t (inr (inr (inr (inr (inl e))))) row = subst (λ (x : ℕ). Holds new x row ↔ IsOwned new parts x row) (sym e) (child 13 (inr (inr (inr (inr (inl refl))))) (same mark (inr (inr (inr (inr (inr (inr (inr (inl refl)))))))) (λ z. omega (arith, z))) row)
  children t (inr (inr (inr (inr (inr (inl e)))))) row = subst (λ (x : ℕ). Holds new x row ↔ IsOwned new parts x row) (sym e) (child 15 (inr (inr (inr (inr (inr (inl refl)))))) (same bearer (inr (inr (inr (inr (inr (inr (inr (inr (inl refl))))))))) (λ z. omega (arith, z))) row)
  children t (inr (inr (inr (inr (inr (inr (inl e))))))) row = subst (λ (x : ℕ). Holds new x row ↔ IsOwned new parts x row) (sym e) (child 17 (inr (inr (inr (inr (inr (inr (inl refl))))))) (same tag (inr (inr (inr (inr (inr (inr (inr (inr (inr (inl refl)))))))))) (λ z. omega (arith, z))) row)
  children t (inr (inr (inr (inr (inr (inr (inr (inl e)))))))) row = subst (λ (x : ℕ). Holds new x row ↔ IsOwned new parts x row) (sym e) ((λ h. profile_from row ((up.profiles numbered row).0 h)), (λ (o : IsOwned new parts 22 row). (up.profiles numbered row).1 (profile_to row o)))
  children t (inr (inr (inr (inr (inr (inr (inr (inr (inl e))))))))) row = subst (λ (x : ℕ). Holds new x row ↔ IsOwned new parts x row) (sym e) (
    (λ h. absurd (subst (λ l. Has l (Int h.0 ∷ row)) up.more h.1)),
    (λ (o : IsOwned new parts 24 row). absurd (subst (λ l. Has l o.values) (besides o.project o.part o.rows o.has).0 o.listed)),
  )
  children t (inr (inr (inr (inr (inr (inr (inr (inr (inr none))))))))) row = absurd none

  ordered : AllOrdered schema_two new
  ordered t (inl e) = subst (λ (x : Table). IsOrdered (new x.tree)) (sym e) (subst IsOrdered (sym up.version) version_ordered)
  ordered t (inr (inl e)) = subst (λ (x : Table). IsOrdered (new x.tree)) (sym e) (subst IsOrdered (sym (same slot (inr (inl refl)) (λ z. omega (arith, z)))) (is.ordered slot (inr (inl refl))))
  ordered t (inr (inr (inl e))) = subst (λ (x : Table). IsOrdered (new x.tree)) (sym e) (subst IsOrdered (sym (same keyed (inr (inr (inl refl))) (λ z. omega (arith, z)))) (is.ordered keyed (inr (inr (inl refl)))))
  ordered t (inr (inr (inr (inl e)))) = subst (λ (x : Table). IsOrdered (new x.tree)) (sym e) (subst IsOrdered (sym (same document (inr (inr (inr (inl refl)))) (λ z. omega (arith, z)))) (is.ordered document (inr (inr (inr (inl refl))))))
  ordered t (inr (inr (inr (inr (inl e))))) = subst (λ (x : Table). IsOrdered (new x.tree)) (sym e) (subst IsOrdered (sym (same range_row (inr (inr (inr (inr (inl refl))))) (λ z. omega (arith, z)))) (is.ordered range_row (inr (inr (inr (inr (inl refl)))))))
  ordered t (inr (inr (inr (inr (inr (inl e)))))) = subst (λ (x : Table). IsOrdered (new x.tree)) (sym e) (subst IsOrdered (sym (same item (inr (inr (inr (inr (inr (inl refl)))))) (λ z. omega (arith, z)))) (is.ordered item (inr (inr (inr (inr (inr (inl refl))))))))
  ordered t (inr (inr (inr (inr (inr (inr (inl e))))))) = subst (λ (x : Table). IsOrdered (new x.tree)) (sym e) (subst IsOrdered (sym (same hover (inr (inr (inr (inr (inr (inr (inl refl))))))) (λ z. omega (arith, z)))) (is.ordered hover (inr (inr (inr (inr (inr (inr (inl refl)))))))))
  ordered t (inr (inr (inr (inr (inr (inr (inr (inl e)))))))) = subst (λ (x : Table). IsOrdered (new x.tree)) (sym e) (subst IsOrdered (sym (same mark (inr (inr (inr (inr (inr (inr (inr (inl refl)))))))) (λ z. omega (arith, z)))) (is.ordered mark (inr (inr (inr (inr (inr (inr (inr (inl refl))))))))))
  ordered t (inr (inr (inr (inr (inr (inr (inr (inr (inl e))))))))) = subst (λ (x : Table). IsOrdered (new x.tree)) (sym e) (subst IsOrdered (sym (same bearer (inr (inr (inr (inr (inr (inr (inr (inr (inl refl))))))))) (λ z. omega (arith, z)))) (is.ordered bearer (inr (inr (inr (inr (inr (inr (inr (inr (inl refl)))))))))))
  ordered t (inr (inr (inr (inr (inr (inr (inr (inr (inr (inl e)))))))))) = subst (λ (x : Table). IsOrdered (new x.tree)) (sym e) (subst IsOrdered (sym (same tag (inr (inr (inr (inr (inr (inr (inr (inr (inr (inl refl)))))))))) (λ z. omega (arith, z)))) (is.ordered tag (inr (inr (inr (inr (inr (inr (inr (inr (inr (inl refl))))))))))))
  ordered t (inr (inr (inr (inr (inr (inr (inr (inr (inr (inr (inl e))))))))))) = subst (λ (x : Table). IsOrdered (new x.tree)) (sym e) (up.ordered numbered)
  ordered t (inr (inr (inr (inr (inr (inr (inr (inr (inr (inr (inr (inl e)))))))))))) = subst (λ (x : Table). IsOrdered (new x.tree)) (sym e) (subst IsOrdered (sym up.more) (record { rises = tt; numbered = λ row none. absurd none }))
  ordered t (inr (inr (inr (inr (inr (inr (inr (inr (inr (inr (inr (inr none)))))))))))) = absurd none

  keeps_upgraded : Keeps new parts replies
  keeps_upgraded = record {
    ordered = ordered;
    version = version_is new up.version;
    slots = λ row h. is.slots row (subst (λ l. Has l row) slots_same h);
    there = λ p k rows has. let s = is.there p k rows has in (s.0, subst (λ l. Has l (slot_row s.0 p k)) (sym slots_same) s.1);
    single = λ a b p k ha hb. is.single a b p k (subst (λ l. Has l (slot_row a p k)) slots_same ha) (subst (λ l. Has l (slot_row b p k)) slots_same hb);
    keyed = subst (λ (rows : List Row). (row : Row) → ((i : ℤ) × Has rows (Int i ∷ row)) ↔ IsReply replies row) (sym (same keyed (inr (inr (inl refl))) (λ e. omega (arith, e)))) is.keyed;
    children = children;
  }

-- ---- the state

besides_dump : (o : Option DumpValue) (rows : ℕ → List Row) → Each IsDumpOne o (Some rows) → (rows 24 ≡ []) × (rows 22 ≡ profile_columns One ∷ [])
besides_dump None rows none = absurd none
besides_dump (Some dump) rows is = (is.none_more, ap (λ (f : ℕ → List Row). f 22) is.is_dump.are_rows ∙ ap (λ by. profile_columns by ∷ []) is.by_one)

besides_tags : (o : Option (List TagValue)) (rows : ℕ → List Row) → Each AreTags o (Some rows) → (rows 24 ≡ []) × (rows 22 ≡ [])
besides_tags None rows none = absurd none
besides_tags (Some tags) rows is = (ap (λ (f : ℕ → List Row). f 24) is, ap (λ (f : ℕ → List Row). f 22) is)

dump_of_two : (o : Option DumpValue) (rows : Option (ℕ → List Row)) → Each IsDumpOne o rows → Each IsDump o rows
dump_of_two None None is = tt
dump_of_two None (Some rows) none = absurd none
dump_of_two (Some dump) None none = absurd none
dump_of_two (Some dump) (Some rows) is = is.is_dump

module _ (db : Trees) (m : State) (is : StandsForOne db m) where
  besides : HasBesides is.parts
  besides project part rows has = elim (which_part part) [
    | inl dump ↦
        let b = besides_dump (m.dump project) rows (subst (Each IsDumpOne (m.dump project)) (ap (is.parts project) (sym dump) ∙ has) (is.dumps project)) in
        (b.0, inl (dump, b.1))
    | inr tags ↦
        let b = besides_tags (m.tags project) rows (subst (Each AreTags (m.tags project)) (ap (is.parts project) (sym tags) ∙ has) (is.tags project)) in
        (b.0, inr (tags, b.1))
  ]

  pub stands_upgraded : (next : Trees) → WasUpgraded db next → StandsFor next m
  stands_upgraded next up = record {
    listed = up.listed;
    parts = is.parts;
    keeps = keeps_upgraded db next is.parts (replies_of m) is.keeps up besides;
    dumps = λ p. dump_of_two (m.dump p) (is.parts p Dump) (is.dumps p);
    tags = is.tags;
  }

pub rests_upgraded : (s t : sqlite.State) (m : State) → RestsOne s m → IsUpgraded s.now t.now → t.committed ≡ t.now → Rests t m
rests_upgraded s t m is up settled = record { schema_is = up.schema_is; settled = settled; stands = stands_upgraded s.now.trees m is.stands t.now.trees up.rows }

pub rests_one : (s : sqlite.State) (m : State) → RestsOne s m → IsFormatOne s.now
rests_one s m is = record {
  schema_is = is.schema_is;
  version = one_row (s.now.trees format_tree) (Int (pos 1) ∷ Null ∷ []) (pos 1) refl (is.stands.keeps.ordered format (inl refl)).rises (λ row h. (is.stands.keeps.version row).0 h) ((is.stands.keeps.version _).1 refl);
}
