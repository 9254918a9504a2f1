-- The rows of dumps as entries: what a selection by the slot of a dump gives.
use Rattle.std.proofs.Common.{◌≡◌, inl, inr, ℕ, ℤ, List, [], ◌∷◌, map, Option, Some, None, refl, sym, ap, subst, ◌∙◌}
use Rattle.std.specs.Prelude.{◌↔◌, Contains}
use Rattle.std.specs.List.{AllByRecursion}
use Rattle.sqlite_value.specs.Order.{Row}
use Rattle.sqlite_value.specs.declared.value.Value.{Value}
use Rattle.sqlite_value.specs.declared.value.Value.TheVariants.{Int}
use Rattle.sqlite_trees.specs.Tree.{Trees}
use Rattle.sqlite_rules.specs.Lists.{Has}
use Rattle.sqlite_rules.proofs.ListLemmas.{has_contained, contains_had}
use Rattle.std.specs.declared.cmp.Ordering.{Ordering}
use Rattle.dump.specs.Places.{IsListing}
use Rattle.dump.specs.Progress.{DumpValue}
use Rattle.tags.specs.Values.{TagValue}
use Rattle.flatten.specs.Flat.{RowsValue, IsFlat}
use Rattle.tables.specs.Databases.{Holds}
use Rattle.tables.specs.Columns.{dump_rows, tag_rows}
use Rattle.tables.specs.Contents.{IsOwned, owned, slot_row}
use Rattle.tables.specs.declared.slots.Part.{Part}
use Rattle.tables.specs.declared.slots.Part.TheVariants.{Dump, Tags}
use Rattle.machine.specs.State.{State}
use Rattle.tables.specs.Stands.{StandsFor, IsDump, AreTags, Each}
use Rattle.tables.specs.Steps.Selected.{AreTyped, Selects, ShowsOne}
use Rattle.tables.specs.Steps.DumpEntries.{Entries, entry_values, SelectsOf, ShowsOneOf}
use Rattle.tables.specs.TableTrees.{slot_tree}
use Rattle.tables.proofs.Entries.{typed_as}
use Rattle.tables.proofs.FoundSlots.{one_slot}
use Rattle.tables.proofs.Keeping.{none_is_some, same_some, table_of, slot_is, which_part, from_map, to_map}
use Rattle.tables.proofs.Selecting.{all_of, of_all}

each_some : {X : Type 0} (HasRows : X → (ℕ → List Row) → Type 0) (o : Option X) (p : Option (ℕ → List Row)) (rows : ℕ → List Row) → Each HasRows o p → p ≡ Some rows → (x : X) × (o ≡ Some x) × HasRows x rows
each_some HasRows None None rows h e = absurd (none_is_some e)
each_some HasRows None (Some r) rows h e = absurd h
each_some HasRows (Some x) None rows h e = absurd h
each_some HasRows (Some x) (Some r) rows h e = (x, refl, subst (HasRows x) (same_some e) h)

some_each : {X : Type 0} (HasRows : X → (ℕ → List Row) → Type 0) (o : Option X) (p : Option (ℕ → List Row)) (x : X) → Each HasRows o p → o ≡ Some x → (rows : ℕ → List Row) × (p ≡ Some rows) × HasRows x rows
some_each HasRows None p x h e = absurd (none_is_some e)
some_each HasRows (Some y) None x h e = absurd h
some_each HasRows (Some y) (Some r) x h e = (r, refl, subst (λ z. HasRows z r) (same_some e) h)

none_each : {X : Type 0} (HasRows : X → (ℕ → List Row) → Type 0) (o : Option X) (p : Option (ℕ → List Row)) → Each HasRows o p → p ≡ None → o ≡ None
none_each HasRows None p h e = refl
none_each HasRows (Some x) None h e = absurd h
none_each HasRows (Some x) (Some r) h e = absurd (none_is_some (sym e))

-- the rows that a list of entries gives
pub listed_are : {E : Type 0} {cmp : E → E → Ordering} (P : E → Type 0) (columns : E → Row) (xs : List E) → IsListing cmp P xs → (row : Row) → Has (map columns xs) row ↔ ((e : E) × P e × (row ≡ columns e))
listed_are P columns xs it row = (
  (λ h. let e = from_map columns xs row h in (e.0, (it.each e.0).0 (contains_had xs e.0 e.1), e.2)),
  (λ h. subst (Has (map columns xs)) (sym h.2) (to_map columns xs h.0 (has_contained xs h.0 ((it.each h.0).1 h.1)))),
)

pub none_are : {V : Type 0} (P : V → Type 0) → ((v : V) → P v → ⊥) → (v : V) → Contains [] v ↔ P v
none_are P none v = ((λ at. absurd (has_contained [] v at)), (λ p. absurd (none v p)))

-- The values that are read from a selection are those of the entries: for each value `entry` is the
-- one that it shows.
module _ {E X V : Type 0} (shown : E → Row) (Of Matches : E → Type 0) (columns : X → Row) (value : X → V) (entry : V → E) (IsSound : X → Type 0) (matches : (v : V) → Matches (entry v))
    (is_of : (x : X) (e : E) → IsSound x → Of e → Matches e → columns x ≡ shown e → e ≡ entry (value x)) (is_value : (x : X) (v : V) → IsSound x → Of (entry v) → columns x ≡ shown (entry v) → value x ≡ v) where
  pub are_values : (xs : List X) → AllByRecursion IsSound xs → SelectsOf shown Of Matches (map columns xs) → (v : V) → Contains (map value xs) v ↔ Of (entry v)
  are_values xs sound found v = (
    (λ at.
        let x = from_map value xs v (has_contained (map value xs) v at) in
        let e = of_all _ (map columns xs) (columns x.0) found.each (to_map columns xs x.0 x.1) in
        subst Of (is_of x.0 e.0 (of_all IsSound xs x.0 sound x.1) e.1 e.2 e.3 ∙ ap entry (sym x.2)) e.1),
    (λ is.
        let x = from_map columns xs (shown (entry v)) (found.all (entry v) is (matches v)) in
        let same = is_value x.0 v (of_all IsSound xs x.0 sound x.1) is (sym x.2) in
        contains_had (map value xs) v (subst (Has (map value xs)) same (to_map value xs x.0 x.1))),
  )

module _ (db : Trees) (m : State) (s : StandsFor db m) where
  -- a part of the first kind is a dump
  pub dump_of : (project : List ℕ) (rows : ℕ → List Row) → s.parts project Dump ≡ Some rows → (dump : DumpValue) × (m.dump project ≡ Some dump) × IsDump dump rows
  dump_of project rows = each_some IsDump (m.dump project) (s.parts project Dump) rows (s.dumps project)

  pub rows_of : (project : List ℕ) (dump : DumpValue) → m.dump project ≡ Some dump → (rows : ℕ → List Row) × (s.parts project Dump ≡ Some rows) × IsDump dump rows
  rows_of project dump = some_each IsDump (m.dump project) (s.parts project Dump) dump (s.dumps project)

  pub no_dump : (project : List ℕ) → s.parts project Dump ≡ None → m.dump project ≡ None
  no_dump project = none_each IsDump (m.dump project) (s.parts project Dump) (s.dumps project)

  pub tags_of : (project : List ℕ) (rows : ℕ → List Row) → s.parts project Tags ≡ Some rows → (tags : List TagValue) × (m.tags project ≡ Some tags) × AreTags tags rows
  tags_of project rows = each_some AreTags (m.tags project) (s.parts project Tags) rows (s.tags project)

  pub rows_of_tags : (project : List ℕ) (tags : List TagValue) → m.tags project ≡ Some tags → (rows : ℕ → List Row) × (s.parts project Tags ≡ Some rows) × AreTags tags rows
  rows_of_tags project tags = some_each AreTags (m.tags project) (s.parts project Tags) tags (s.tags project)

  -- the slot of a project's dump
  pub dump_slot : (project : List ℕ) (id : ℤ) → Has (db slot_tree) (slot_row id project Dump) → (dump : DumpValue) × (m.dump project ≡ Some dump)
  dump_slot project id h =
      let it = s.keeps.slots _ h in
      let same = (slot_is it.is).1 in
      let d = dump_of it.project it.rows (subst (λ (k : Part). s.parts it.project k ≡ Some it.rows) (sym same.1) it.has) in
      (d.0, subst (λ (p : List ℕ). m.dump p ≡ Some d.0) (sym same.0) d.1)

  -- a table with rows of dumps alone
  module _ {E : Type 0} (Of : DumpValue → E → Type 0) (columns : E → Row) (tree : ℕ) (owns : Has owned tree)
      (are : (d : DumpValue) (flat : RowsValue) → IsFlat d.elements flat → (row : Row) → Has (dump_rows d.profile flat tree) row ↔ ((e : E) × Of d e × (row ≡ columns e))) (untagged : (tags : List TagValue) → tag_rows tags tree ≡ []) where
    abbrev values : Entries Of db m → Row
    values = entry_values columns Of db m

    from_owned : (row : Row) → IsOwned db s.parts tree row → (e : Entries Of db m) × (row ≡ values e)
    from_owned row o = elim (which_part o.part) [
      | inl one ↦
          let d = dump_of o.project o.rows (subst (λ (k : Part). s.parts o.project k ≡ Some o.rows) one o.has) in
          let it = (are d.0 d.2.flat d.2.is_flat o.values).0 (subst (λ (r : ℕ → List Row). Has (r tree) o.values) d.2.are_rows o.listed) in
          ((record { slot = o.id; value = it.0 }, record { project = o.project; dump = d.0; slot = subst (λ (k : Part). Has (db slot_tree) (slot_row o.id o.project k)) one o.slot; has = d.1; is = it.1 }), o.is ∙ ap (λ (v : Row). Int o.id ∷ v) it.2)
      | inr two ↦
          let t = tags_of o.project o.rows (subst (λ (k : Part). s.parts o.project k ≡ Some o.rows) two o.has) in
          absurd (subst (λ (l : List Row). Has l o.values) (untagged t.0) (subst (λ (r : ℕ → List Row). Has (r tree) o.values) t.2 o.listed))
    ]

    pub typed : AreTyped values (db tree)
    typed =
        let it = table_of tree owns in
        subst (λ (t : ℕ). AreTyped values (db t)) it.2
        (typed_as values db s.parts _ s.keeps it.0 it.1 (λ row h. let e = from_owned row ((s.keeps.children tree owns row).0 (subst (λ (t : ℕ). Holds db t row) it.2 h)) in (e.0, e.1)))

    pub held : (e : Entries Of db m) → Holds db tree (values e)
    held e =
        let r = rows_of e.1.project e.1.dump e.1.has in
        let listed = (are e.1.dump r.2.flat r.2.is_flat (columns e.0.value)).1 (e.0.value, e.1.is, refl) in
        (s.keeps.children tree owns (values e)).1 (record { id = e.0.slot; project = e.1.project; part = Dump; rows = r.0; values = columns e.0.value; slot = e.1.slot; has = r.1; listed = subst (λ (f : ℕ → List Row). Has (f tree) (columns e.0.value)) (sym r.2.are_rows) listed; is = refl })

    -- one dump of them, by its slot
    module _ (project : List ℕ) (dump : DumpValue) (id : ℤ) (slot : Has (db slot_tree) (slot_row id project Dump)) (has : m.dump project ≡ Some dump) (Matches : E → Type 0) where
      abbrev Wanted : ℤ → Entries Of db m → Type 0
      Wanted at e = (e.0.slot ≡ id) × Matches e.0.value

      pub in_dump : (e : Entries Of db m) → e.0.slot ≡ id → Of dump e.0.value
      in_dump e same =
          let p = (one_slot db s.parts _ id e.1.project project Dump Dump s.keeps (subst (λ (i : ℤ). Has (db slot_tree) (slot_row i e.1.project Dump)) same e.1.slot) slot).0 in
          let d : e.1.dump ≡ dump = same_some (sym e.1.has ∙ (ap m.dump p ∙ has)) in
          subst (λ (x : DumpValue). Of x e.0.value) d e.1.is

      abbrev pub entry : (e : E) → Of dump e → Entries Of db m
      entry e is = (record { slot = id; value = e }, record { project = project; dump = dump; slot = slot; has = has; is = is })

      pub selects_of : (shown : E → Row) (rows : List Row) → Selects values (λ at e. shown e.0.value) Wanted db tree rows → SelectsOf shown (Of dump) Matches rows
      selects_of shown rows h = record {
        each = all_of _ rows (λ r there. let it = of_all _ rows r h.each there in (it.0.0.value, in_dump it.0 it.1.1.0, it.1.1.1, it.2));
        all = λ e is matches. h.all (entry e is) (held (entry e is), (refl, matches));
      }

      pub shows_one_of : {X : Type 0} (shown : E → Row) (read : X → List Value) (found : Option X) → ShowsOne values (λ at e. shown e.0.value) Wanted read db tree found → ShowsOneOf shown (Of dump) Matches read found
      shows_one_of shown read None none = λ e is matches. none (entry e is) (held (entry e is), (refl, matches))
      shows_one_of shown read (Some x) one = (one.0.0.value, in_dump one.0 one.1.1.0, one.1.1.1, one.2)
