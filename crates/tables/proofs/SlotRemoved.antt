-- What a DELETE of one part's slot leaves, and what a SELECT of it finds.
use Rattle.std.proofs.Common.{map, ◌≡◌, ◌⊎◌, ◌↔◌, inl, inr, ℕ, ℤ, List, [], ◌∷◌, length, Option, Some, None, Result, Ok, Err, IfOk, refl, sym, ap, ◌∙◌}
use Rattle.sqlite_value.specs.Order.{Row}
use Rattle.sqlite_value.specs.declared.value.Value.TheVariants.{Int, Text}
use Rattle.sqlite_trees.specs.Tree.{Trees, rowid}
use Rattle.sqlite_rules.specs.Lists.{Has}
use Rattle.sqlite_rules.specs.Edit.{id_in}
use Rattle.sqlite.specs.declared.error.Error.{Error}
use Rattle.sqlite.specs.State.{State, ExecutesInside}
use Rattle.tables.specs.declared.slots.TheConstants.{DELETE_FROM_SLOT}
use Rattle.tables.specs.Schema.{schema_two}
use Rattle.tables.specs.Steps.Queries.{by_project_and_part}
use Rattle.tables.specs.Steps.Puts.{GoesOn}
use Rattle.tables.specs.Contents.{Contents, Replies, Keeps, slot_row, changed}
use Rattle.tables.specs.Parts.{part_number}
use Rattle.tables.specs.declared.slots.Part.{Part}
use Rattle.tables.proofs.Removal.{Removed, removes}
use Rattle.tables.proofs.Keeping.{slot_is, none_is_some}
use Rattle.tables.proofs.PartRemoved.{id_from, id_to, keeps_drop}

pub option_cases : {X : Type 0} (o : Option X) → (o ≡ None) ⊎ ((x : X) × (o ≡ Some x))
option_cases None = inl refl
option_cases (Some x) = inr (x, refl)

no_ids : (rows : List Row) (id : ℤ) → length rows ≡ 0 → Has (map (λ x. id_in (rowid x)) rows) id → ⊥
no_ids [] id e h = h
no_ids (x ∷ xs) id e h = absurd cc

some_id : (rows : List Row) → (length rows ≡ 0) ⊎ ((id : ℤ) × Has (map (λ x. id_in (rowid x)) rows) id)
some_id [] = inl refl
some_id (x ∷ xs) = inr (id_in (rowid x), inl refl)

module _ (parts : Contents) (replies : Replies) (p : List ℕ) (k : Part) (old new : Trees) (is : Keeps old parts replies) (r : Removed (Text p ∷ Int (part_number k) ∷ []) by_project_and_part old new) where
  none_there : length r.rows ≡ 0 → parts p k ≡ None
  none_there e = elim (option_cases (parts p k)) [
    | inl none ↦ none
    | inr some ↦ let s = is.there p k some.0 some.1 in absurd (no_ids r.rows s.0 e (id_to parts replies p k old new is r s.0 s.1))
  ]

  none_taken : parts p k ≡ None → length r.rows ≡ 0
  none_taken none = elim (some_id r.rows) [
    | inl e ↦ e
    | inr some ↦
        let s = is.slots (slot_row some.0 p k) (id_from parts replies p k old new is r some.0 some.1) in
        let at = (slot_is s.is).1 in
        absurd (none_is_some (sym none ∙ (ap (λ (q : List ℕ). parts q k) at.0 ∙ (ap (parts s.project) at.1 ∙ s.has))))
  ]

pub drop_ok : (project : List ℕ) (part : Part) (old new : State) (r : Result ℕ Error) → old.now.schema ≡ schema_two → ExecutesInside 0 DELETE_FROM_SLOT.now (Text project ∷ Int (part_number part) ∷ []) old new r
    → (parts : Contents) (replies : Replies) → Keeps old.now.trees parts replies → IfOk r (λ count. GoesOn old new × Keeps new.now.trees (changed parts project part None) replies × ((count ≡ 0) ↔ (parts project part ≡ None)))
drop_ok project part old new (Err e) has h parts replies is = tt
drop_ok project part old new (Ok count) has h parts replies is =
    let it = removes old new project (part_number part) count has is.ordered h.0 in (
      record { schema = it.0; inside = rw h.1.mode; committed = h.1.committed_is },
      keeps_drop parts replies project part old.now.trees new.now.trees is it.1.0,
      ((λ none. none_there parts replies project part old.now.trees new.now.trees is it.1.0 (sym it.1.1 ∙ none)), (λ none. it.1.1 ∙ none_taken parts replies project part old.now.trees new.now.trees is it.1.0 none)),
    )
