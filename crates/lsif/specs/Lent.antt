-- Ids that are borrowed.
use Rattle.std.specs.Prelude.{List, ◌∷◌, Option, Some, None}
use Rattle.lsif.specs.IdValues.{IdValue, number, text}
use Rattle.lsif.specs.declared.id.IdRef.{IdRef}
use Rattle.lsif.specs.declared.id.IdRef.TheVariants as lent

abbrev pub lent_value : IdRef → IdValue
lent_value (lent.Number n) = number n
lent_value (lent.Text s) = text s.now

-- an id, where there is one, and those after it
abbrev pub ids_behind : Option IdRef → List IdValue → List IdValue
ids_behind None ids = ids
ids_behind (Some id) ids = lent_value id ∷ ids
