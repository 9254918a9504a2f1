-- The numbers of the tables' trees, in the order in which they are made; those between are of
-- indexes.
use Rattle.std.specs.Prelude.{ℕ}

abbrev pub format_tree : ℕ
format_tree = 0

abbrev pub slot_tree : ℕ
slot_tree = 1

abbrev pub keyed_tree : ℕ
keyed_tree = 3

abbrev pub document_tree : ℕ
document_tree = 5

abbrev pub range_row_tree : ℕ
range_row_tree = 7

abbrev pub item_tree : ℕ
item_tree = 9

abbrev pub hover_tree : ℕ
hover_tree = 11

abbrev pub mark_tree : ℕ
mark_tree = 13

abbrev pub bearer_tree : ℕ
bearer_tree = 15

abbrev pub tag_tree : ℕ
tag_tree = 17

abbrev pub part_profile_tree : ℕ
part_profile_tree = 22

abbrev pub more_tree : ℕ
more_tree = 24
