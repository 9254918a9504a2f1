-- The INSERT of each table.
use Rattle.std.proofs.Common.{append-nil, String, string_bytes, option_map, ◌/◌, suc, slice_get, ◌≡◌, ◌∙◌, ◌+◌, arith, ℕ, ℤ, pos, Bool, true, false, cond, List, [], ◌∷◌, length, map, flat_map, Option, Some, None, refl, ap, subst, IsTrue, Result, OnOk}
use Rattle.sqlite_value.specs.declared.value.Value.{Value}
use Rattle.sqlite_value.specs.declared.value.Value.TheVariants.{Null, Int, Text}
use Rattle.sqlite_value.specs.Order.{Row}
use Rattle.sqlite_sql.specs.Term.{lit, col}
use Rattle.sqlite_sql.specs.Ops.{unary}
use Rattle.sqlite_schema.specs.declared.schema.Kind.TheVariants.{Integer, Text as TextKind}
use Rattle.sqlite_rules.specs.Cast.{cast, cast_row, cast_all as cast_columns}
use Rattle.sqlite_schema.specs.declared.schema.Table.{Table}
use Rattle.sqlite.specs.declared.error.Error.{Error}
use Rattle.sqlite.specs.State.{State, ExecutesInside}
use Rattle.sqlite.specs.Effect.{value_rows}
use Rattle.sqlite.specs.Values.{or_null, bound_value}
use Rattle.sqlite_schema.specs.declared.command.Source.TheVariants.{Values}
use Rattle.sqlite_schema.specs.declared.command.Command.TheVariants.{Insert}
use Rattle.positions.specs.Position.{packed_of}
use Rattle.lsif.specs.declared.profile.Profile.{Profile}
use Rattle.tags.specs.Views.{tag_value}
use Rattle.lsif.specs.declared.request_kind.RequestKind.{RequestKind}
use Rattle.lsif.specs.declared.request_kind.RequestKind.TheVariants.{Definition, References, Hover}
use Rattle.flatten.specs.Flat.{ResultsValue, role_index, kind_index}
use Rattle.flatten.specs.Rows.{document_value, range_value, item_value, hover_value, mark_value, bearer_value}
use Rattle.flatten.specs.declared.rows.DocRow.{DocRow}
use Rattle.flatten.specs.declared.rows.RangeRow.{RangeRow}
use Rattle.flatten.specs.declared.rows.ItemRow.{ItemRow}
use Rattle.flatten.specs.declared.rows.HoverRow.{HoverRow}
use Rattle.flatten.specs.declared.rows.MarkRow.{MarkRow}
use Rattle.flatten.specs.declared.rows.BearerRow.{BearerRow}
use Rattle.lsif.specs.Profiles.{profile_number}
use Rattle.tables.specs.Columns.{number, optional, document_columns, range_columns, item_columns, hover_columns, mark_columns, bearer_columns, kind_columns, optional_text, columns_with, profile_columns}
use Rattle.tables.specs.Kinds.{more_kinds, more_names}
use Rattle.tables.specs.Steps.Known.{MoreValue, more_value, more_values}
use Rattle.tables.specs.declared.more.MoreRow.{MoreRow}
use Rattle.tables.specs.declared.tags_part.WrittenTag.{WrittenTag}
use Rattle.tables.specs.declared.slots.TheConstants.{INSERT_INTO_SLOT, INSERT_INTO_KEYED}
use Rattle.tables.specs.declared.dump_rows.TheConstants.{INSERT_DOCUMENT, INSERT_RANGE, INSERT_ITEM, INSERT_HOVER, INSERT_MARK, INSERT_BEARER, INSERT_EIGHT_RANGES, INSERT_EIGHT_ITEMS, INSERT_EIGHT_HOVERS, INSERT_EIGHT_MARKS, INSERT_EIGHT_BEARERS}
use Rattle.tables.specs.declared.tags_part.TheConstants.{INSERT_TAG, INSERT_EIGHT_TAGS}
use Rattle.tables.specs.declared.dump_part.TheConstants.{INSERT_INTO_PROFILES}
use Rattle.tables.specs.declared.kinds.TheConstants.{INSERT_MORE}
use Rattle.tables.specs.Schema.{schema_two, integer_column, slot, keyed, document, range_row, item, hover, mark, bearer, tag, part_profile, more}
use Rattle.tables.specs.Steps.Puts.{Steps, Puts}
use Rattle.tables.specs.Steps.Inserts.{Inserts, InsertsOne, InsertsEight, plainly}
use Rattle.tables.proofs.ValueRows.{rows_of_values}
use Rattle.tables.specs.TableTrees.{slot_tree, keyed_tree, document_tree, range_row_tree, item_tree, hover_tree, mark_tree, bearer_tree, tag_tree, part_profile_tree, more_tree}
use Rattle.tables.specs.Databases.{IsListed}
use Rattle.tables.proofs.Puts.{put_at, listed_ok}
use Rattle.tables.proofs.Commands.{IsCommand, insert_slot_is, insert_keyed_is, insert_document_is, insert_range_row_is, insert_item_is, insert_hover_is, insert_mark_is, insert_bearer_is, insert_tag_is, insert_part_profile_is, insert_more_is, row_terms, insert_range_rows_is, insert_items_is, insert_hovers_is, insert_marks_is, insert_bearers_is, insert_tags_is}

either : (b : Bool) (x : Value) → cond b x x ≡ x
either true x = refl
either false x = refl

pub cast_null : cast Integer Null ≡ Null
unfolding unary
cast_null = either _ Null

pub cast_int : (n : ℤ) → cast Integer (Int n) ≡ Int n
unfolding unary
cast_int n = either _ (Int n)

cast_optional : (o : Option ℕ) → cast Integer (optional o) ≡ optional o
cast_optional None = cast_null
cast_optional (Some n) = cast_int (pos n)

cast_optional_text : (o : Option (List ℕ)) → cast TextKind (optional_text o) ≡ optional_text o
cast_optional_text None = refl
cast_optional_text (Some text) = refl

pub optional_is : (value : ℕ → Value) → ((n : ℕ) → value n ≡ number n) → (o : Option ℕ) → or_null value o ≡ optional o
optional_is value is None = refl
optional_is value is (Some n) = is n

pub bound_optional : (o : Option ℕ) → bound_value (optional o) ≡ optional o
bound_optional None = refl
bound_optional (Some n) = refl

pub text_is : {A : Type 0} (o : Option (String A)) → or_null (λ (s : String A). Text (string_bytes s)) o ≡ optional_text (option_map (λ (s : String A). string_bytes s) o)
text_is None = refl
text_is (Some text) = refl

pub bound_text : (o : Option (List ℕ)) → bound_value (optional_text o) ≡ optional_text o
bound_text None = refl
bound_text (Some text) = refl

-- rows that a table takes as they are
each_cast : (t : Table) {X : Type 0} (columns : X → Row) → ((x : X) → cast_row t (Null ∷ columns x) ≡ Null ∷ columns x) → (xs : List X)
    → map (cast_row t) (map (λ x. Null ∷ columns x) xs) ≡ map (λ v. Null ∷ v) (map columns xs)
each_cast t columns cast [] = refl
each_cast t columns cast (x ∷ xs) = let one = cast x in let more = each_cast t columns cast xs in rw (one, more) refl

-- What makes the rows of a table that are put the values that they're put with: each has so many
-- columns, and the table takes them as they are.
record IsPut {X : Type 0} (at tree width : ℕ) (columns : X → Row) : Type 0 where
  table : Table
  placed : slice_get schema_two.tables at ≡ Some (plainly table)
  of_tree : table.tree ≡ tree
  wide : (x : X) → length (columns x) ≡ width
  cast : (x : X) → cast_row table (Null ∷ columns x) ≡ Null ∷ columns x

-- a statement with values for so many rows puts them
puts : {X : Type 0} {at tree width : ℕ} {columns : X → Row} → IsPut at tree width columns → (text : List ℕ) (n : ℕ)
    → IsCommand text (Insert at (Values (row_terms 0 width n) (suc width))) → length (row_terms 0 width n) / suc width ≡ n → (x : X) (rest : List X) → length (x ∷ rest) ≡ n
    → Inserts text tree (flat_map columns (x ∷ rest)) (map columns (x ∷ rest))
puts {X} {at} {tree} {width} {columns} it text n command counts x rest len =
    let rows : List X = x ∷ rest in
    let values : Row = flat_map columns rows in
    let each = subst (λ k. value_rows values (suc width) k (row_terms 0 width k) ≡ map (λ y. Null ∷ columns y) rows) len (rows_of_values columns width it.wide rows) in
    record {
      at = at;
      table = it.table;
      terms = row_terms 0 width n;
      width = suc width;
      is = command.is;
      plain = command.plain;
      placed = it.placed;
      of_tree = it.of_tree;
      first = columns x;
      rest = map columns rest;
      some = refl;
      taken = ap (map (cast_row it.table)) (ap (λ k. value_rows values (suc width) k (row_terms 0 width n)) counts ∙ each) ∙ each_cast it.table columns it.cast rows;
    }

ones : {X : Type 0} {at tree width : ℕ} {columns : X → Row} → ((id : ℤ) → IsPut at tree width (λ x. Int id ∷ columns x)) → (text : List ℕ) → IsCommand text (Insert at (Values (row_terms 0 width 1) (suc width)))
    → length (row_terms 0 width 1) / suc width ≡ 1 → InsertsOne text tree columns
ones {X} {at} {tree} {width} {columns} puts_rows text is counts = record {
  one = λ id x. subst (λ values. Inserts text tree values ((Int id ∷ columns x) ∷ [])) (append-nil (Int id ∷ columns x)) (puts (puts_rows id) text 1 is counts x [] refl);
}

eights : {X : Type 0} {at tree width : ℕ} {columns : X → Row} → ((id : ℤ) → IsPut at tree width (λ x. Int id ∷ columns x)) → (text : List ℕ) → IsCommand text (Insert at (Values (row_terms 0 width 8) (suc width)))
    → length (row_terms 0 width 8) / suc width ≡ 8 → InsertsEight text tree columns
eights {X} {at} {tree} {width} {columns} puts_rows text is counts = record { eight = all }
  where
    all : (id : ℤ) (rows : List X) → length rows ≡ 8 → Inserts text tree (flat_map (λ x. Int id ∷ columns x) rows) (map (λ x. Int id ∷ columns x) rows)
    all id [] len = absurd (omega (arith, len))
    all id (x ∷ rows) len = puts (puts_rows id) text 8 is counts x rows len

-- slot

pub slot_put : (project : List ℕ) (part : ℤ) (old new : State) (r : Result ℕ Error) → old.now.schema ≡ schema_two → IsTrue old.in_transaction → ExecutesInside 0 INSERT_INTO_SLOT.now (Text project ∷ Int part ∷ []) old new r
    → OnOk r (Steps (Puts slot_tree new.last_rowid (Null ∷ Text project ∷ Int part ∷ [])) old new)
slot_put project part =
    put_at INSERT_INTO_SLOT.now (Text project ∷ Int part ∷ []) 1 slot (lit Null ∷ lit Null ∷ col 0 0 ∷ col 0 1 ∷ []) 4 insert_slot_is.is insert_slot_is.plain refl (Null ∷ Text project ∷ Int part ∷ []) (rw (cast_null, cast_int part) refl)

-- keyed

keyed_rows : IsPut 2 keyed_tree 3 (λ (kept : List ℕ × (List ℕ × List ℕ)). Text kept.0 ∷ Text kept.1.0 ∷ Text kept.1.1 ∷ [])
keyed_rows = record { table = keyed; placed = refl; of_tree = refl; wide = λ kept. refl; cast = λ kept. rw (cast_null) }

pub keyed_put : (project key reply : List ℕ) → Inserts INSERT_INTO_KEYED.now keyed_tree (Text project ∷ Text key ∷ Text reply ∷ []) ((Text project ∷ Text key ∷ Text reply ∷ []) ∷ [])
keyed_put project key reply = puts keyed_rows INSERT_INTO_KEYED.now 1 insert_keyed_is refl (project, (key, reply)) [] refl

pub keyed_listed : (project key reply : List ℕ) (old new : State) (done : Result ℕ Error) → old.now.schema ≡ schema_two → ExecutesInside 0 INSERT_INTO_KEYED.now (Text project ∷ Text key ∷ Text reply ∷ []) old new done
    → OnOk done (IsListed schema_two new.now.trees)
keyed_listed project key reply =
    listed_ok INSERT_INTO_KEYED.now keyed_tree (Text project ∷ Text key ∷ Text reply ∷ []) ((Text project ∷ Text key ∷ Text reply ∷ []) ∷ []) (keyed_put project key reply)

-- document

document_rows : (id : ℤ) → IsPut 3 document_tree 2 (λ (row : DocRow). Int id ∷ document_columns (document_value row))
document_rows id = record { table = document; placed = refl; of_tree = refl; wide = λ row. refl; cast = λ row. rw (cast_null, cast_int id) }

pub document_put : InsertsOne INSERT_DOCUMENT.now document_tree (λ (row : DocRow). document_columns (document_value row))
document_put = ones document_rows INSERT_DOCUMENT.now insert_document_is refl

-- range_row

range_row_rows : (id : ℤ) → IsPut 4 range_row_tree 9 (λ (row : RangeRow). Int id ∷ range_columns (range_value row))
range_row_rows id = record { table = range_row; placed = refl; of_tree = refl; wide = λ row. refl; cast = λ row. rw (cast_null, cast_int id, cast_int (pos (range_value row).line), cast_int (pos (packed_of (range_value row).place.span.start)), cast_int (pos (packed_of (range_value row).place.span.«end»)), cast_optional (range_value row).parent, cast_optional ((range_value row).results Definition), cast_optional ((range_value row).results References), cast_optional ((range_value row).results Hover)) }

pub range_row_put : InsertsOne INSERT_RANGE.now range_row_tree (λ (row : RangeRow). range_columns (range_value row))
range_row_put = ones range_row_rows INSERT_RANGE.now insert_range_row_is refl

pub range_rows_put : InsertsEight INSERT_EIGHT_RANGES.now range_row_tree (λ (row : RangeRow). range_columns (range_value row))
range_rows_put = eights range_row_rows INSERT_EIGHT_RANGES.now insert_range_rows_is refl

-- item

item_rows : (id : ℤ) → IsPut 5 item_tree 6 (λ (row : ItemRow). Int id ∷ item_columns (item_value row))
item_rows id = record { table = item; placed = refl; of_tree = refl; wide = λ row. refl; cast = λ row. rw (cast_null, cast_int id, cast_int (pos (item_value row).result), cast_int (pos (role_index (item_value row).role)), cast_int (pos (packed_of (item_value row).place.span.start)), cast_int (pos (packed_of (item_value row).place.span.«end»))) }

pub item_put : InsertsOne INSERT_ITEM.now item_tree (λ (row : ItemRow). item_columns (item_value row))
item_put = ones item_rows INSERT_ITEM.now insert_item_is refl

pub items_put : InsertsEight INSERT_EIGHT_ITEMS.now item_tree (λ (row : ItemRow). item_columns (item_value row))
items_put = eights item_rows INSERT_EIGHT_ITEMS.now insert_items_is refl

-- hover

hover_rows : (id : ℤ) → IsPut 6 hover_tree 3 (λ (row : HoverRow). Int id ∷ hover_columns (hover_value row))
hover_rows id = record { table = hover; placed = refl; of_tree = refl; wide = λ row. refl; cast = λ row. rw (cast_null, cast_int id, cast_int (pos (hover_value row).result)) }

pub hover_put : InsertsOne INSERT_HOVER.now hover_tree (λ (row : HoverRow). hover_columns (hover_value row))
hover_put = ones hover_rows INSERT_HOVER.now insert_hover_is refl

pub hovers_put : InsertsEight INSERT_EIGHT_HOVERS.now hover_tree (λ (row : HoverRow). hover_columns (hover_value row))
hovers_put = eights hover_rows INSERT_EIGHT_HOVERS.now insert_hovers_is refl

-- mark

mark_rows : (id : ℤ) → IsPut 7 mark_tree 4 (λ (row : MarkRow). Int id ∷ mark_columns (mark_value row))
mark_rows id = record { table = mark; placed = refl; of_tree = refl; wide = λ row. refl; cast = λ row. rw (cast_null, cast_int id, cast_int (pos (mark_value row).range), cast_int (pos (kind_index (mark_value row).kind))) }

pub mark_put : InsertsOne INSERT_MARK.now mark_tree (λ (row : MarkRow). mark_columns (mark_value row))
mark_put = ones mark_rows INSERT_MARK.now insert_mark_is refl

pub marks_put : InsertsEight INSERT_EIGHT_MARKS.now mark_tree (λ (row : MarkRow). mark_columns (mark_value row))
marks_put = eights mark_rows INSERT_EIGHT_MARKS.now insert_marks_is refl

-- bearer

bearer_rows : (id : ℤ) → IsPut 8 bearer_tree 7 (λ (row : BearerRow). Int id ∷ bearer_columns (bearer_value row))
bearer_rows id = record { table = bearer; placed = refl; of_tree = refl; wide = λ row. refl; cast = λ row. rw (cast_null, cast_int id, cast_int (pos (bearer_value row).line), cast_int (pos (kind_index (bearer_value row).kind)), cast_optional ((bearer_value row).results Definition), cast_optional ((bearer_value row).results References), cast_optional ((bearer_value row).results Hover)) }

pub bearer_put : InsertsOne INSERT_BEARER.now bearer_tree (λ (row : BearerRow). bearer_columns (bearer_value row))
bearer_put = ones bearer_rows INSERT_BEARER.now insert_bearer_is refl

pub bearers_put : InsertsEight INSERT_EIGHT_BEARERS.now bearer_tree (λ (row : BearerRow). bearer_columns (bearer_value row))
bearers_put = eights bearer_rows INSERT_EIGHT_BEARERS.now insert_bearers_is refl

-- tag

tag_rows : (id : ℤ) → IsPut 9 tag_tree 7 (λ (row : WrittenTag). Int id ∷ columns_with (tag_value row.tag.now) (string_bytes row.fields))
tag_rows id = record { table = tag; placed = refl; of_tree = refl; wide = λ row. refl; cast = λ row. rw (cast_null, cast_int id, cast_int (pos (tag_value row.tag.now).line), cast_optional_text (tag_value row.tag.now).kind) }

pub tag_put : InsertsOne INSERT_TAG.now tag_tree (λ (row : WrittenTag). columns_with (tag_value row.tag.now) (string_bytes row.fields))
tag_put = ones tag_rows INSERT_TAG.now insert_tag_is refl

pub tags_put : InsertsEight INSERT_EIGHT_TAGS.now tag_tree (λ (row : WrittenTag). columns_with (tag_value row.tag.now) (string_bytes row.fields))
tags_put = eights tag_rows INSERT_EIGHT_TAGS.now insert_tags_is refl

-- part_profile

part_profile_rows : (id : ℤ) → IsPut 10 part_profile_tree 2 (λ profile. Int id ∷ profile_columns profile)
part_profile_rows id = record { table = part_profile; placed = refl; of_tree = refl; wide = λ profile. refl; cast = λ profile. rw (cast_null, cast_int id, cast_int (pos (profile_number profile))) }

pub part_profile_put : (id : ℤ) (profile : Profile) → Inserts INSERT_INTO_PROFILES.now part_profile_tree (Int id ∷ profile_columns profile) ((Int id ∷ profile_columns profile) ∷ [])
part_profile_put id profile = puts (part_profile_rows id) INSERT_INTO_PROFILES.now 1 insert_part_profile_is refl profile [] refl

-- more

-- columns of numbers take the numbers of results as they are
cast_numbers : (names : List (List ℕ)) (kinds : List RequestKind) (r : ResultsValue)
    → cast_columns (map (λ name. integer_column name false) names) (kind_columns kinds r) ≡ kind_columns kinds r
cast_numbers [] kinds r = refl
cast_numbers (name ∷ names) [] r = refl
cast_numbers (name ∷ names) (k ∷ kinds) r = rw (cast_optional (r k), cast_numbers names kinds r) refl

more_cast : (id : ℤ) (v : MoreValue) → cast_row more (Null ∷ Int id ∷ more_values v) ≡ Null ∷ Int id ∷ more_values v
more_cast id v =
    ap (λ (row : Row). cast Integer Null ∷ cast Integer (Int id) ∷ cast Integer (number v.line) ∷ row) (cast_numbers more_names more_kinds v.results)
    ∙ (rw (cast_null, cast_int id, cast_int (pos v.line)) refl)

more_rows : (id : ℤ) → IsPut 11 more_tree (2 + length more_kinds) (λ (row : MoreRow). Int id ∷ more_values (more_value row))
more_rows id = record { table = more; placed = refl; of_tree = refl; wide = λ row. refl; cast = λ row. more_cast id (more_value row) }

pub more_put : InsertsOne INSERT_MORE.now more_tree (λ (row : MoreRow). more_values (more_value row))
more_put = ones more_rows INSERT_MORE.now insert_more_is refl
