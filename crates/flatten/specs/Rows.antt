-- The rows without where they lie in memory.
use Rattle.std.specs.Prelude.{map, List, ℕ, None, get_or}
use Rattle.std.specs.Rc.{rc_str_bytes}
use Rattle.lsif.specs.RequestKinds.{kind_number}
use Rattle.flatten.specs.declared.results.Results.{Results}
use Rattle.flatten.specs.declared.rows.DocRow.{DocRow}
use Rattle.flatten.specs.declared.rows.RangeRow.{RangeRow}
use Rattle.flatten.specs.declared.rows.ItemRow.{ItemRow}
use Rattle.flatten.specs.declared.rows.HoverRow.{HoverRow}
use Rattle.flatten.specs.declared.rows.MarkRow.{MarkRow}
use Rattle.flatten.specs.declared.rows.BearerRow.{BearerRow}
use Rattle.flatten.specs.declared.rows.Rows.{Rows}
use Rattle.flatten.specs.Flat.{ResultsValue, RangeRowValue, ItemRowValue, HoverRowValue, MarkRowValue, BearerRowValue, RowsValue}

-- the numbers at the indices of the kinds
abbrev pub results_value : Results → ResultsValue
results_value r = λ kind. get_or r.numbers (kind_number kind) None

abbrev pub document_value : DocRow → List ℕ
document_value r = r.uri.now

abbrev pub range_value : RangeRow → RangeRowValue
range_value r = record {
  line = r.line;
  place = record { uri = r.uri.now; span = r.span.now };
  parent = r.parent;
  results = results_value r.results;
}

abbrev pub item_value : ItemRow → ItemRowValue
item_value r = record {
  result = r.result;
  role = r.role;
  place = record { uri = r.uri.now; span = r.span.now };
}

abbrev pub hover_value : HoverRow → HoverRowValue
hover_value r = record { result = r.result; contents = r.contents.now }

abbrev pub mark_value : MarkRow → MarkRowValue
mark_value r = record { range = r.range; kind = r.kind; key = rc_str_bytes r.key }

abbrev pub bearer_value : BearerRow → BearerRowValue
bearer_value r = record {
  line = r.line;
  key = rc_str_bytes r.key;
  kind = r.kind;
  results = results_value r.results;
}

abbrev pub rows_value : Rows → RowsValue
rows_value r = record {
  documents = map document_value r.documents.items;
  ranges = map range_value r.ranges.items;
  items = map item_value r.items.items;
  hovers = map hover_value r.hovers.items;
  marks = map mark_value r.marks.items;
  bearers = map bearer_value r.bearers.items;
}
