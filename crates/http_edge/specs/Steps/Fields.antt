-- The values of fields as the program has them.
use Rattle.http_edge.specs.Values.{Values, absent, single, several}
use Rattle.http_edge.specs.declared.fields.FieldValues.{FieldValues}
use Rattle.http_edge.specs.declared.fields.FieldValues.TheVariants.{Absent, Single, Several}

abbrev pub field_values_of : FieldValues → Values
field_values_of Absent = absent
field_values_of (Single value) = single value.now
field_values_of Several = several
