-- What the statements compile to.
use Rattle.std.proofs.Common.{◌≡◌, refl, [], ◌∷◌, ◌++◌, ◌+◌, length, map, codes, ℕ, zero, suc, List}
use Rattle.std.specs.List.{range_with_len}
use Rattle.sqlite.specs.Listing.{understood}
use Rattle.sqlite.proofs.Callers.{IsPlain, command_of}
use Rattle.sqlite_tied.specs.Compute.{everything}
use Rattle.sqlite_value.specs.declared.value.Value.TheVariants.{Null}
use Rattle.sqlite_sql.specs.Term.{Term, lit, col}
use Rattle.sqlite_schema.specs.declared.command.Source.TheVariants.{Values}
use Rattle.sqlite_schema.specs.declared.command.Command.{Command}
use Rattle.sqlite_schema.specs.declared.command.Command.TheVariants.{Insert, Delete}
use Rattle.tables.specs.declared.slots.TheConstants.{DELETE_FROM_SLOT, INSERT_INTO_SLOT, INSERT_INTO_KEYED}
use Rattle.tables.specs.declared.dump_rows.TheConstants.{INSERT_DOCUMENT, INSERT_RANGE, INSERT_ITEM, INSERT_HOVER, INSERT_MARK, INSERT_BEARER, INSERT_EIGHT_RANGES, INSERT_EIGHT_ITEMS, INSERT_EIGHT_HOVERS, INSERT_EIGHT_MARKS, INSERT_EIGHT_BEARERS}
use Rattle.tables.specs.declared.tags_part.TheConstants.{INSERT_TAG, INSERT_EIGHT_TAGS}
use Rattle.tables.specs.declared.dump_part.TheConstants.{INSERT_INTO_PROFILES}
use Rattle.tables.specs.declared.kinds.TheConstants.{INSERT_MORE}
use Rattle.tables.specs.declared.replies.TheConstants.{SELECT_REPLY}
use Rattle.tables.specs.Kinds.{more_kinds}
use Rattle.tables.specs.Schema.{schema_two}
use Rattle.tables.specs.Steps.Queries.{by_project_and_key, reply_shown, by_project_and_part, id_shown}
use Rattle.tables.proofs.Select.{IsSelect, one_table}

-- over the tables of format 2 the text is this command, and it doesn't read the time
pub record IsCommand (sql : List ℕ) (command : Command) : Type 0 where
  pub is : command_of (understood schema_two sql) ≡ command
  pub plain : IsPlain (understood schema_two sql)

-- the terms of so many rows: the rowid of each is chosen, and then come the next values
abbrev pub row_terms : ℕ → ℕ → ℕ → List Term
row_terms from width zero = []
row_terms from width (suc count) = lit Null ∷ map (col 0) (range_with_len from width) ++ row_terms (from + width) width count

pub insert_slot_is : IsCommand INSERT_INTO_SLOT.now (Insert 1 (Values (lit Null ∷ lit Null ∷ col 0 0 ∷ col 0 1 ∷ []) 4))
unfolding understood everything
insert_slot_is = record { is = refl; plain = (refl, refl) }

pub insert_keyed_is : IsCommand INSERT_INTO_KEYED.now (Insert 2 (Values (row_terms 0 3 1) 4))
unfolding understood everything
insert_keyed_is = record { is = refl; plain = (refl, refl) }

pub insert_document_is : IsCommand INSERT_DOCUMENT.now (Insert 3 (Values (row_terms 0 2 1) 3))
unfolding understood everything
insert_document_is = record { is = refl; plain = (refl, refl) }

pub insert_range_row_is : IsCommand INSERT_RANGE.now (Insert 4 (Values (row_terms 0 9 1) 10))
unfolding understood everything
insert_range_row_is = record { is = refl; plain = (refl, refl) }

pub insert_item_is : IsCommand INSERT_ITEM.now (Insert 5 (Values (row_terms 0 6 1) 7))
unfolding understood everything
insert_item_is = record { is = refl; plain = (refl, refl) }

pub insert_hover_is : IsCommand INSERT_HOVER.now (Insert 6 (Values (row_terms 0 3 1) 4))
unfolding understood everything
insert_hover_is = record { is = refl; plain = (refl, refl) }

pub insert_mark_is : IsCommand INSERT_MARK.now (Insert 7 (Values (row_terms 0 4 1) 5))
unfolding understood everything
insert_mark_is = record { is = refl; plain = (refl, refl) }

pub insert_bearer_is : IsCommand INSERT_BEARER.now (Insert 8 (Values (row_terms 0 7 1) 8))
unfolding understood everything
insert_bearer_is = record { is = refl; plain = (refl, refl) }

pub insert_tag_is : IsCommand INSERT_TAG.now (Insert 9 (Values (row_terms 0 7 1) 8))
unfolding understood everything
insert_tag_is = record { is = refl; plain = (refl, refl) }

pub insert_part_profile_is : IsCommand INSERT_INTO_PROFILES.now (Insert 10 (Values (row_terms 0 2 1) 3))
unfolding understood everything
insert_part_profile_is = record { is = refl; plain = (refl, refl) }

pub insert_more_is : IsCommand INSERT_MORE.now (Insert 11 (Values (row_terms 0 (2 + length more_kinds) 1) (3 + length more_kinds)))
unfolding understood everything
insert_more_is = record { is = refl; plain = (refl, refl) }

pub insert_range_rows_is : IsCommand INSERT_EIGHT_RANGES.now (Insert 4 (Values (row_terms 0 9 8) 10))
unfolding understood everything
insert_range_rows_is = record { is = refl; plain = (refl, refl) }

pub insert_items_is : IsCommand INSERT_EIGHT_ITEMS.now (Insert 5 (Values (row_terms 0 6 8) 7))
unfolding understood everything
insert_items_is = record { is = refl; plain = (refl, refl) }

pub insert_hovers_is : IsCommand INSERT_EIGHT_HOVERS.now (Insert 6 (Values (row_terms 0 3 8) 4))
unfolding understood everything
insert_hovers_is = record { is = refl; plain = (refl, refl) }

pub insert_marks_is : IsCommand INSERT_EIGHT_MARKS.now (Insert 7 (Values (row_terms 0 4 8) 5))
unfolding understood everything
insert_marks_is = record { is = refl; plain = (refl, refl) }

pub insert_bearers_is : IsCommand INSERT_EIGHT_BEARERS.now (Insert 8 (Values (row_terms 0 7 8) 8))
unfolding understood everything
insert_bearers_is = record { is = refl; plain = (refl, refl) }

pub insert_tags_is : IsCommand INSERT_EIGHT_TAGS.now (Insert 9 (Values (row_terms 0 7 8) 8))
unfolding understood everything
insert_tags_is = record { is = refl; plain = (refl, refl) }

pub delete_slot_is : IsCommand DELETE_FROM_SLOT.now (Delete 1 (record { lets = []; body = one_table 1 by_project_and_part id_shown }))
unfolding understood everything
delete_slot_is = record { is = refl; plain = (refl, refl) }

pub select_reply_is : IsSelect schema_two SELECT_REPLY.now (one_table 3 by_project_and_key reply_shown) (codes "reply" ∷ [])
unfolding understood everything
select_reply_is = record { is = refl; plain = (refl, refl); unlisted = refl; silent = λ schema base. refl }
