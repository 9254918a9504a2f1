-- What the parts of a line and its tag are without where they lie in memory.
use Rattle.std.specs.Prelude.{option_map, List, map, string_bytes}
use Rattle.tags.specs.Parts.{PartValue}
use Rattle.tags.specs.Values.{FieldValue, TagValue}
use Rattle.tags.specs.declared.parts.Part.{Part}
use Rattle.tags.specs.declared.tag.Field.{Field}
use Rattle.tags.specs.declared.tag.Tag.{Tag}

abbrev pub part_value : Part → PartValue
part_value p = record { text = p.text.now; from = p.from; to = p.to }

abbrev pub part_values : List Part → List PartValue
part_values parts = map part_value parts

abbrev pub field_value : Field → FieldValue
field_value f = record { name = string_bytes f.name; value = string_bytes f.value }

abbrev pub tag_value : Tag → TagValue
tag_value t = record {
  line = t.line;
  name = string_bytes t.name;
  file = string_bytes t.file;
  address = string_bytes t.address;
  kind = option_map (λ s. string_bytes s) t.kind;
  fields = map field_value t.fields.items;
}

abbrev pub tag_values : List Tag → List TagValue
tag_values tags = map tag_value tags
