-- The kinds of parts of a project, as `slot` has them.
use Rattle.std.specs.Prelude.{ℤ, pos, Bool, true, false}
use Rattle.tables.specs.declared.slots.Part.{Part}
use Rattle.tables.specs.declared.slots.Part.TheVariants.{Dump, Tags}

abbrev pub part_number : Part → ℤ
part_number Dump = pos 1
part_number Tags = pos 2

abbrev pub same_part : Part → Part → Bool
same_part Dump Dump = true
same_part Dump Tags = false
same_part Tags Dump = false
same_part Tags Tags = true
