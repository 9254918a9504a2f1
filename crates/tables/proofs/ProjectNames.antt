-- The projects with a part, as they are selected.
use Rattle.std.proofs.Common.{◌≡◌, ◌⊎◌, inl, inr, ◌||◌, ℕ, ℤ, Bool, true, List, [], ◌∷◌, ◌++◌, map, Option, Some, None, is_some, codes, false, refl, sym, ap, subst, ◌∙◌, string_bytes, ◌↔◌, Contains}
use Rattle.std.specs.declared.string.String.{String}
use Rattle.std.specs.declared.alloc.Global.{Global}
use Rattle.std.specs.List.{AllByRecursion}
use Rattle.std.specs.Cmp.{IsTotalOrder}
use Rattle.std.specs.Cmp.Lexicographic.{on_texts, texts_ties}
use Rattle.std.specs.String.{string_eq}
use Rattle.std.specs.Ordering.{eq_by_cmp}
use Rattle.sqlite.specs.Listing.{understood}
use Rattle.sqlite.specs.State.{State as Store, Shown}
use Rattle.sqlite_tied.specs.Compute.{everything}
use Rattle.sqlite_value.specs.Order.{Row}
use Rattle.sqlite_value.specs.declared.value.Value.TheVariants.{Text}
use Rattle.sqlite_sql.specs.Term.{col}
use Rattle.sqlite_trees.specs.Tree.{Trees}
use Rattle.sqlite_rules.specs.Lists.{Has}
use Rattle.sqlite_rules.proofs.ListLemmas.{has_contained, contains_had}
use Rattle.sqlite_trees.proofs.ListLemmas.{map-map}
use Rattle.std.proofs.lemmas.List.{map-append}
use Rattle.dump.specs.Places.{IsListing}
use Rattle.dump.proofs.Listing.{under, same_listing}
use Rattle.flatten.proofs.Listing.{rises_unmap}
use Rattle.flatten.proofs.RowOrders.{text_eq}
use Rattle.tables.specs.declared.slots.Part.TheVariants.{Dump, Tags}
use Rattle.tables.specs.declared.slots.Part.{Part}
use Rattle.tables.specs.Schema.{schema_two}
use Rattle.tables.specs.Contents.{Contents, Replies, Keeps}
use Rattle.machine.specs.State.{State}
use Rattle.tables.specs.Stands.{StandsFor}
use Rattle.machine.specs.Projects.{ProjectValue, text_cmp}
use Rattle.machine.specs.Found.{project_found}
use Rattle.machine.specs.Selections.{FindsProjects}
use Rattle.machine.specs.declared.found.FoundProject.{FoundProject}
use Rattle.tables.specs.declared.projects.TheConstants.{SELECT_PROJECTS}
use Rattle.tables.specs.Steps.Selected.{AreRead, Selects, equals}
use Rattle.tables.specs.Steps.Slots.{IsSlotOf, HasPart, IsTold}
use Rattle.tables.proofs.DumpEntries.{dump_of, tags_of, rows_of, rows_of_tags}
use Rattle.tables.proofs.FoundSlots.{SlotEntry, slot_values, typed_slots}
use Rattle.tables.proofs.Keeping.{none_is_some, from_map, to_map, which_part, slot_is}
use Rattle.tables.proofs.Select.{IsSelect, one_table}
use Rattle.tables.proofs.Selecting.{IsSelection, selects_typed, of_all, all_last}

pub select_projects_is : IsSelect schema_two SELECT_PROJECTS.now (one_table 1 (equals []) (col 1 2 ∷ [])) (codes "project" ∷ [])
unfolding understood everything
select_projects_is = record { is = refl; plain = (refl, refl); unlisted = refl; silent = λ schema base. refl }

-- ---- the order

abbrev pub text_of : String Global → List ℕ
text_of s = string_bytes s

pub name_total : IsTotalOrder (under text_of text_cmp)
name_total = on_texts text_of

pub name_tie : (x y : String Global) → string_eq x y ≡ eq_by_cmp (under text_of text_cmp) x y
name_tie x y = texts_ties (string_bytes x) (string_bytes y)

pub name_one : (x y : String Global) → string_eq x y ≡ true → string_bytes x ≡ string_bytes y
name_one x y e = text_eq (string_bytes x) (string_bytes y) e

-- ---- the selection

abbrev name_columns : String Global → Row
name_columns s = Text (string_bytes s) ∷ []

abbrev name_shown : ℤ → SlotEntry → Row
name_shown id e = Text e.project ∷ []

abbrev IsAny : ℤ → SlotEntry → Type 0
IsAny id e = Unit {0}

selection : IsSelection slot_values name_shown IsAny SELECT_PROJECTS.now [] 1
selection = record {
  pairs = [];
  terms = col 1 2 ∷ [];
  names = codes "project" ∷ [];
  is = select_projects_is;
  own = λ db. refl;
  shows = λ id e. refl;
  alike = λ id e. tt;
  wants = λ id e h. tt;
  wanted = λ id e w. tt;
}

have_parts : (db : Trees) (parts : Contents) (replies : Replies) → Keeps db parts replies → (xs : List (String Global)) → Selects slot_values name_shown IsAny db 1 (map name_columns xs) → (v : List ℕ) → Contains (map string_bytes xs) v ↔ HasPart parts v
have_parts db parts replies is xs found v = (
  (λ at.
      let x = from_map string_bytes xs v (has_contained (map string_bytes xs) v at) in
      let e = of_all _ (map name_columns xs) (name_columns x.0) found.each (to_map name_columns xs x.0 x.1) in
      let s = is.slots _ e.1.0.1 in
      let same : s.project ≡ v = (let a = s.is in let b = e.2 in let it : s.project ≡ string_bytes x.0 = cc in it) ∙ sym x.2 in
      subst (HasPart parts) same (s.part, s.rows, s.has)),
  (λ h.
      let s = is.there v h.0 h.1 h.2 in
      let x = from_map name_columns xs (Text v ∷ []) (found.all (record { project = v; part = h.0 }) ((s.0, s.1), tt)) in
      let same : string_bytes x.0 ≡ v = let a = x.2 in cc in
      contains_had (map string_bytes xs) v (subst (Has (map string_bytes xs)) same (to_map string_bytes xs x.0 x.1))),
)

pub names_found : (old new : Store) (rows : List Row) (found listed : List (String Global)) (parts : Contents) (replies : Replies) → Keeps old.now.trees parts replies → old.now.schema ≡ schema_two → Shown SELECT_PROJECTS.now [] old new rows → AreRead name_columns rows found
    → IsListing text_cmp (Contains (map string_bytes found)) (map string_bytes listed) → IsListing text_cmp (HasPart parts) (map string_bytes listed)
unfolding selection
names_found old new rows found listed parts replies is schema shown read list =
    same_listing text_cmp _ _ (map string_bytes listed) (have_parts old.now.trees parts replies is found
    (selects_typed slot_values name_shown IsAny name_columns SELECT_PROJECTS.now [] 1 selection (λ x. refl) old new rows schema (typed_slots old.now.trees parts replies is) shown found read)) list

abbrev pub names_of : List FoundProject → List (List ℕ)
names_of found = map (λ (p : FoundProject). string_bytes p.name) found

-- ---- which parts

pub told_part : (db : Trees) (parts : Contents) (replies : Replies) (project : List ℕ) (part : Part) (found : Option ℤ) → Keeps db parts replies → IsSlotOf db parts project part found → is_some found ≡ is_some (parts project part)
told_part db parts replies project part None is slot = sym (ap is_some slot)
told_part db parts replies project part (Some id) is slot =
    let s = is.slots _ slot in
    let at = (slot_is s.is).1 in
    let same : parts project part ≡ Some s.rows = ap (λ (q : List ℕ). parts q part) at.0 ∙ (ap (parts s.project) at.1 ∙ s.has) in
    sym (ap is_some same)

some_of : {X : Type 0} (o : Option X) → is_some o ≡ true → (x : X) × (o ≡ Some x)
some_of None e = absurd cc
some_of (Some x) e = (x, refl)

either : (a b : Bool) → (a || b) ≡ true → (a ≡ true) ⊎ (b ≡ true)
either true b e = inl refl
either false b e = inr e

left_true : (a b : Bool) → a ≡ true → (a || b) ≡ true
left_true true b e = refl
left_true false b e = absurd cc

right_true : (a b : Bool) → b ≡ true → (a || b) ≡ true
right_true true b e = refl
right_true false b e = e

both_some : {X Y : Type 0} (o : Option X) (p : Option Y) → ((x : X) → o ≡ Some x → (y : Y) × (p ≡ Some y)) → ((y : Y) → p ≡ Some y → (x : X) × (o ≡ Some x)) → is_some o ≡ is_some p
both_some None None to back = refl
both_some None (Some y) to back = absurd (none_is_some (back y refl).1)
both_some (Some x) None to back = absurd (none_is_some (to x refl).1)
both_some (Some x) (Some y) to back = refl

module _ (db : Trees) (m : State) (s : StandsFor db m) where
  pub told_dump : (project : List ℕ) → is_some (s.parts project Dump) ≡ is_some (m.dump project)
  told_dump project = both_some (s.parts project Dump) (m.dump project) (λ r e. let d = dump_of db m s project r e in (d.0, d.1)) (λ d e. let r = rows_of db m s project d e in (r.0, r.1))

  pub told_tags : (project : List ℕ) → is_some (s.parts project Tags) ≡ is_some (m.tags project)
  told_tags project = both_some (s.parts project Tags) (m.tags project) (λ r e. let t = tags_of db m s project r e in (t.0, t.1)) (λ t e. let r = rows_of_tags db m s project t e in (r.0, r.1))

  has_some : (name : List ℕ) → HasPart s.parts name ↔ ((is_some (m.dump name) || is_some (m.tags name)) ≡ true)
  has_some name = (
    (λ h. elim (which_part h.0) [
      | inl one ↦ left_true _ _ (ap is_some (dump_of db m s name h.1 (subst (λ (k : Part). s.parts name k ≡ Some h.1) one h.2)).1)
      | inr two ↦ right_true _ _ (ap is_some (tags_of db m s name h.1 (subst (λ (k : Part). s.parts name k ≡ Some h.1) two h.2)).1)
    ]),
    (λ e. elim (either _ _ e) [
      | inl one ↦ let d = some_of (m.dump name) one in let r = rows_of db m s name d.0 d.1 in (Dump, r.0, r.1)
      | inr two ↦ let t = some_of (m.tags name) two in let r = rows_of_tags db m s name t.0 t.1 in (Tags, r.0, r.1)
    ]),
  )

  abbrev name_of : ProjectValue → List ℕ
  name_of p = p.name

  one_told : (p q : ProjectValue) → IsTold m p → IsTold m q → p.name ≡ q.name → p ≡ q
  one_told p q a b same =
      let dump : p.dump ≡ q.dump = a.0 ∙ (ap (λ n. is_some (m.dump n)) same ∙ sym b.0) in
      let tags : p.tags ≡ q.tags = a.1 ∙ (ap (λ n. is_some (m.tags n)) same ∙ sym b.1) in
      λ i. record { name = same i; dump = dump i; tags = tags i }

  values_are : (found : List ProjectValue) → AllByRecursion (IsTold m) found → IsListing text_cmp (HasPart s.parts) (map name_of found) → FindsProjects m found
  values_are found told list = record {
    rises = rises_unmap name_of text_cmp found list.rises;
    each = λ p. (
      (λ at.
          let there = has_contained found p at in
          let it = of_all (IsTold m) found p told there in
          let some = (has_some p.name).0 ((list.each p.name).0 (contains_had (map name_of found) p.name (to_map name_of found p there))) in
          (it.0, it.1, rw (it.0, it.1) some)),
      (λ is.
          let h = (has_some p.name).1 (rw (is.0, is.1) at is.2) in
          let q = from_map name_of found p.name (has_contained (map name_of found) p.name ((list.each p.name).1 h)) in
          contains_had found p (subst (Has found) (one_told q.0 p (of_all (IsTold m) found q.0 told q.1) (is.0, is.1) (sym q.2)) q.1)),
    );
  }

  pub projects_are : (found : List FoundProject) → AllByRecursion (IsTold m) (map project_found found) → IsListing text_cmp (HasPart s.parts) (names_of found) → FindsProjects m (map project_found found)
  projects_are found told list = values_are (map project_found found) told (subst (IsListing text_cmp (HasPart s.parts)) (sym (map-map name_of project_found found)) list)

pub told_all : (m : State) (before after : List FoundProject) (project : FoundProject) → after ≡ before ++ project ∷ [] → AllByRecursion (IsTold m) (map project_found before) → IsTold m (project_found project) → AllByRecursion (IsTold m) (map project_found after)
told_all m before after project is told one =
    subst (AllByRecursion (IsTold m)) (sym (ap (map project_found) is ∙ map-append project_found before (project ∷ []))) (all_last (IsTold m) (map project_found before) (project_found project) told one)
