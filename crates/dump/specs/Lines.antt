-- The dump that a text is, read by a profile (LSIF 0.6.0: one element on each line).
use Rattle.std.specs.Prelude.{ℕ, List, map}
use Rattle.lsif.specs.Element.{Reading}
use Rattle.streams.specs.Lines.{lines_of}
use Rattle.lsif.specs.Reading.{reading}
use Rattle.lsif.specs.declared.profile.Profile.{Profile}

-- the readings of the lines of a text
abbrev pub dump_of : Profile → List ℕ → List Reading
dump_of profile text = map (reading profile) (lines_of text)
