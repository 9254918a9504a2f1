-- The slots of parts, as they are selected.
use Rattle.std.proofs.Common.{◌≡◌, inl, inr, ℕ, ℤ, List, [], ◌∷◌, Option, Some, None, codes, refl, sym, ap, subst, ◌∙◌, string_bytes}
use Rattle.std.specs.declared.string.String.{String}
use Rattle.std.specs.declared.alloc.Global.{Global}
use Rattle.sqlite.specs.Listing.{understood}
use Rattle.sqlite.specs.State.{State, Shown}
use Rattle.sqlite_tied.specs.Compute.{everything}
use Rattle.sqlite_value.specs.Order.{Row}
use Rattle.sqlite_value.specs.declared.value.Value.TheVariants.{Null, Int, Text}
use Rattle.sqlite_value.proofs.OrderLemmas.{value_cmp-Int}
use Rattle.sqlite_sql.specs.Term.{col}
use Rattle.sqlite_trees.specs.Tree.{Trees}
use Rattle.sqlite_rules.specs.Lists.{Has}
use Rattle.sqlite_rules.proofs.PlaceLemmas.{tied_same}
use Rattle.tables.specs.Schema.{schema_two, slot}
use Rattle.tables.specs.Contents.{Contents, Replies, Keeps, slot_row}
use Rattle.tables.specs.declared.parts.TheConstants.{SELECT_SLOT}
use Rattle.tables.specs.declared.parts.TheConstants.{SELECT_PROJECT}
use Rattle.tables.specs.Steps.Selected.{AreTyped, IsFirstRead, ShowsOne, equals}
use Rattle.tables.specs.Steps.Slots.{IsSlotOf}
use Rattle.tables.specs.Parts.{part_number}
use Rattle.tables.specs.declared.slots.Part.{Part}
use Rattle.tables.specs.TableTrees.{slot_tree}
use Rattle.tables.proofs.Cascade.{equal_is}
use Rattle.tables.proofs.Keeping.{none_is_some, same_some, slot_is, number_is, same_int_itself}
use Rattle.tables.proofs.Select.{IsSelect, one_table}
use Rattle.tables.proofs.Selecting.{IsSelection, shows_one}

pub select_slot_is : IsSelect schema_two SELECT_SLOT.now (one_table 1 (equals ((2, 0) ∷ (3, 1) ∷ [])) (col 1 0 ∷ [])) (codes "id" ∷ [])
unfolding understood everything
select_slot_is = record { is = refl; plain = (refl, refl); unlisted = refl; silent = λ schema base. refl }

pub record SlotEntry : Type 0 where
  pub project : List ℕ
  pub part : Part

abbrev pub slot_values : SlotEntry → Row
slot_values e = Null ∷ Text e.project ∷ Int (part_number e.part) ∷ []

abbrev pub id_of : ℤ → Row
id_of id = Int id ∷ []

abbrev Ided : ℤ → SlotEntry → Row
Ided id e = id_of id

pub typed_slots : (db : Trees) (parts : Contents) (replies : Replies) → Keeps db parts replies → AreTyped slot_values (db slot_tree)
typed_slots db parts replies is row h = let s = is.slots row h in (s.id, record { project = s.project; part = s.part }, s.is)

-- two parts have no slot in common
pub one_slot : (db : Trees) (parts : Contents) (replies : Replies) (id : ℤ) (p q : List ℕ) (j k : Part) → Keeps db parts replies → Has (db slot_tree) (slot_row id p j) → Has (db slot_tree) (slot_row id q k) → (p ≡ q) × (j ≡ k)
one_slot db parts replies id p q j k is a b =
    (slot_is (tied_same (db slot_tree) (slot_row id p j) (slot_row id q k) (is.ordered slot (inr (inl refl))).rises a b (value_cmp-Int id id ∙ equal_is _ (same_int_itself id)))).1

pub no_slot : (db : Trees) (parts : Contents) (project : List ℕ) (part : Part) (found : Option ℤ) → IsSlotOf db parts project part found → found ≡ None → parts project part ≡ None
no_slot db parts project part None is e = is
no_slot db parts project part (Some id) is e = absurd (none_is_some (sym e))

pub the_slot : (db : Trees) (parts : Contents) (project : List ℕ) (part : Part) (id : ℤ) (found : Option ℤ) → IsSlotOf db parts project part found → found ≡ Some id → Has (db slot_tree) (slot_row id project part)
the_slot db parts project part id None is e = absurd (none_is_some e)
the_slot db parts project part id (Some n) is e = subst (λ (i : ℤ). Has (db slot_tree) (slot_row i project part)) (let it : n ≡ id = cc in it) is

module _ (project : List ℕ) (part : Part) where
  abbrev IsOfPart : ℤ → SlotEntry → Type 0
  IsOfPart id e = (e.project ≡ project) × (e.part ≡ part)

  selection : IsSelection slot_values Ided IsOfPart SELECT_SLOT.now (Text project ∷ Int (part_number part) ∷ []) 1
  selection = record {
    pairs = (2, 0) ∷ (3, 1) ∷ [];
    terms = col 1 0 ∷ [];
    names = codes "id" ∷ [];
    is = select_slot_is;
    own = λ db. refl;
    shows = λ id e. refl;
    alike = λ id e. (tt, (tt, tt));
    wants = λ id e h. ((let a = h.0 in cc), number_is _ _ (let a = h.1.0 in cc));
    wanted = λ id e w. (ap Text w.0, (ap (λ k. Int (part_number k)) w.1, tt));
  }

  is_slot : (db : Trees) (parts : Contents) (replies : Replies) → Keeps db parts replies → (found : Option ℤ) → ShowsOne slot_values Ided IsOfPart id_of db 1 found → IsSlotOf db parts project part found
  is_slot db parts replies is None none = none_there (parts project part) refl
    where
      none_there : (o : Option (ℕ → List Row)) → parts project part ≡ o → parts project part ≡ None
      none_there None e = e
      none_there (Some rows) e =
          let s = is.there project part rows e in
          absurd (none (record { project = project; part = part }) ((s.0, s.1), (refl, refl)))
  is_slot db parts replies is (Some id) one =
      let same : one.1.0.0 ≡ id = let a = one.2 in cc in
      subst (λ (i : ℤ). Has (db slot_tree) (slot_row i project part)) same
      (subst (λ (k : Part). Has (db slot_tree) (slot_row one.1.0.0 project k)) one.1.1.1 (subst (λ (p : List ℕ). Has (db slot_tree) (slot_row one.1.0.0 p one.0.part)) one.1.1.0 one.1.0.1))

  pub slot_found : (old new : State) (rows : List Row) (found : Option ℤ) (parts : Contents) (replies : Replies) → Keeps old.now.trees parts replies → old.now.schema ≡ schema_two → Shown SELECT_SLOT.now (Text project ∷ Int (part_number part) ∷ []) old new rows → IsFirstRead id_of rows found
      → IsSlotOf old.now.trees parts project part found
  unfolding selection
  slot_found old new rows found parts replies is has shown read =
      is_slot old.now.trees parts replies is found
      (shows_one slot_values Ided IsOfPart id_of SELECT_SLOT.now (Text project ∷ Int (part_number part) ∷ []) 1 selection (λ x. refl) old new rows has (typed_slots old.now.trees parts replies is) shown found read)

-- ---- the project of a slot

pub select_project_is : IsSelect schema_two SELECT_PROJECT.now (one_table 1 (equals ((0, 0) ∷ [])) (col 1 2 ∷ [])) (codes "project" ∷ [])
unfolding understood everything
select_project_is = record { is = refl; plain = (refl, refl); unlisted = refl; silent = λ schema base. refl }

abbrev project_columns : String Global → Row
project_columns s = Text (string_bytes s) ∷ []

abbrev project_shown : ℤ → SlotEntry → Row
project_shown id e = Text e.project ∷ []

module _ (id : ℤ) where
  abbrev HasId : ℤ → SlotEntry → Type 0
  HasId at e = at ≡ id

  by_id : IsSelection slot_values project_shown HasId SELECT_PROJECT.now (Int id ∷ []) 1
  by_id = record {
    pairs = (0, 0) ∷ [];
    terms = col 1 2 ∷ [];
    names = codes "project" ∷ [];
    is = select_project_is;
    own = λ db. refl;
    shows = λ at e. refl;
    alike = λ at e. (tt, tt);
    wants = λ at e h. let a = h.0 in cc;
    wanted = λ at e w. (ap Int w, tt);
  }

  is_project : (db : Trees) (parts : Contents) (replies : Replies) → Keeps db parts replies → (project : List ℕ) (part : Part) → Has (db slot_tree) (slot_row id project part) → (found : Option (String Global)) (text : String Global) → found ≡ Some text
      → ShowsOne slot_values project_shown HasId project_columns db 1 found → string_bytes text ≡ project
  is_project db parts replies is project part slot None text e none = absurd (none_is_some e)
  is_project db parts replies is project part slot (Some x) text e one =
      let entry = one.0 in
      let there = subst (λ (i : ℤ). Has (db slot_tree) (Int i ∷ slot_values entry)) one.1.1 one.1.0.1 in
      let same = (one_slot db parts replies id entry.project project entry.part part is there slot).0 in
      let read : string_bytes x ≡ entry.project = let a = one.2 in cc in
      let text_is : x ≡ text = same_some e in
      ap (λ (t : String Global). string_bytes t) (sym text_is) ∙ (read ∙ same)

  pub project_found : (old new : State) (rows : List Row) (found : Option (String Global)) (text : String Global) (parts : Contents) (replies : Replies) → found ≡ Some text → Keeps old.now.trees parts replies → old.now.schema ≡ schema_two
      → Shown SELECT_PROJECT.now (Int id ∷ []) old new rows → IsFirstRead project_columns rows found → (project : List ℕ) (part : Part) → Has (old.now.trees slot_tree) (slot_row id project part) → string_bytes text ≡ project
  unfolding by_id
  project_found old new rows found text parts replies e is has shown read project part slot =
      is_project old.now.trees parts replies is project part slot found text e
      (shows_one slot_values project_shown HasId project_columns SELECT_PROJECT.now (Int id ∷ []) 1 by_id (λ x. refl) old new rows has (typed_slots old.now.trees parts replies is) shown found read)
