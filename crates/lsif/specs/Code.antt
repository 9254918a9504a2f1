-- The faults of a dump: how each is printed, and which are faults of one line alone.
use Rattle.std.specs.Prelude.{ℕ, List, Bool, true, false, codes}
use Rattle.lsif.specs.declared.code.Code.{Code}
use Rattle.lsif.specs.declared.code.Code.TheVariants.{L01, L02, L03, L04, L05, L06, L07, L08, L09, L10, L11, L12, L13, L14, L15, L16, L17, L18, L19, L20, E01, E02}

-- the name and the text of a code, as they are printed
abbrev pub printed : Code → List ℕ × List ℕ
printed L01 = (codes "L01", codes "line too long")
printed L02 = (codes "L02", codes "not JSON")
printed L03 = (codes "L03", codes "no valid id")
printed L04 = (codes "L04", codes "id used before")
printed L05 = (codes "L05", codes "bad type or label")
printed L06 = (codes "L06", codes "metaData missing, wrong or repeated")
printed L07 = (codes "L07", codes "bad vertex member")
printed L08 = (codes "L08", codes "bad edge ends")
printed L09 = (codes "L09", codes "vertex not emitted before")
printed L10 = (codes "L10", codes "edge may not join these")
printed L11 = (codes "L11", codes "range contained before")
printed L12 = (codes "L12", codes "range equal to or overlapping another")
printed L13 = (codes "L13", codes "second edge of a single kind")
printed L14 = (codes "L14", codes "next closes a cycle")
printed L15 = (codes "L15", codes "bad item property or shard")
printed L16 = (codes "L16", codes "shard names no document or project")
printed L17 = (codes "L17", codes "bad document event")
printed L18 = (codes "L18", codes "named after its document ended")
printed L19 = (codes "L19", codes "document uri used before")
printed L20 = (codes "L20", codes "too many elements")
printed E01 = (codes "E01", codes "range in no document")
printed E02 = (codes "E02", codes "shard is not the document of a target")

abbrev pub name_of : Code → List ℕ
name_of code = (printed code).0

abbrev pub text_of : Code → List ℕ
text_of code = (printed code).1

-- a fault of one line alone, whatever the other lines are
abbrev pub is_shape_code : Code → Bool
is_shape_code L01 = true
is_shape_code L02 = true
is_shape_code L03 = true
is_shape_code L05 = true
is_shape_code L07 = true
is_shape_code L08 = true
is_shape_code L15 = true
is_shape_code c = false
