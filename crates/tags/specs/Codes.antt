-- How each code is printed, and its text.
use Rattle.std.specs.Prelude.{ℕ, List, codes}
use Rattle.tags.specs.declared.code.Code.{Code}
use Rattle.tags.specs.declared.code.Code.TheVariants.{T01, T02, T03, T04, T05, T06, T07, T08, T09, T10, T11}

-- the name and the text of a code, as they are printed
abbrev pub printed : Code → List ℕ × List ℕ
printed T01 = (codes "T01", codes "line too long")
printed T02 = (codes "T02", codes "not UTF-8")
printed T03 = (codes "T03", codes "control character")
printed T04 = (codes "T04", codes "fewer than three parts")
printed T05 = (codes "T05", codes "bad escape")
printed T06 = (codes "T06", codes "bad address")
printed T07 = (codes "T07", codes "bad field")
printed T08 = (codes "T08", codes "format is not 2")
printed T09 = (codes "T09", codes "pseudo-tag after a tag")
printed T10 = (codes "T10", codes "names descend")
printed T11 = (codes "T11", codes "too many lines")

abbrev pub name_of : Code → List ℕ
name_of code = (printed code).0

abbrev pub text_of : Code → List ℕ
text_of code = (printed code).1
