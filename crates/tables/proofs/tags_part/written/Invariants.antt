use Rattle.std.proofs.Common.{◌≡◌, map, take, string_bytes}
use Rattle.tags.specs.Views.{tag_value}
use Rattle.tables.specs.Columns.{columns_with, tag_columns}
use Rattle.tables.proofs.tags_part.written.Given as goal

abbrev pub invariant-loop-tag : goal.invariant-loop-tag
invariant-loop-tag l = map (λ row. columns_with (tag_value row.tag.now) (string_bytes row.fields)) l.rows.items ≡ map (λ tag. tag_columns (tag_value tag)) (take l.tag-index l.tags)
