-- The columns that a row has for the first results of a line. The kinds of format 1 have theirs in
-- `range_row` and in `bearer`; the others, by which format 2 adds to it, in `more`.
use Rattle.std.specs.Prelude.{ℕ, List, [], ◌∷◌, drop, take, codes}
use Rattle.lsif.specs.RequestKinds.{kinds}
use Rattle.lsif.specs.declared.request_kind.RequestKind.{RequestKind}

-- definitions, references and hovers, which format 1 has
abbrev pub own_kinds : List RequestKind
own_kinds = take 3 kinds

-- those by which format 2 adds to it
abbrev pub more_kinds : List RequestKind
more_kinds = drop 3 kinds

-- ---- the columns of `more` for its kinds

-- their names
abbrev pub more_names : List (List ℕ)
more_names = codes "decl" ∷ codes "imp" ∷ []

-- the columns as the table declares them
abbrev pub more_declared : List ℕ
more_declared = codes "decl INTEGER, imp INTEGER"
