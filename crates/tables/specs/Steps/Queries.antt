-- What statements test, and what they show.
use Rattle.std.specs.Prelude.{List, [], ◌∷◌}
use Rattle.sqlite_value.specs.declared.keys.Collation.TheVariants.{Binary}
use Rattle.sqlite_sql.specs.declared.ops.BinaryOp.TheVariants.{Compare}
use Rattle.sqlite_sql.specs.declared.ops.CompareOp.TheVariants.{Eq}
use Rattle.sqlite_sql.specs.Term.{Term, col, op2}

abbrev pub same : Term → Term → Term
same a b = op2 (Compare Eq Binary) a b

-- `project = ?1 AND cmdkey = ?2`, for a row of `keyed`
abbrev pub by_project_and_key : List Term
by_project_and_key = same (col 1 1) (col 0 0) ∷ same (col 1 2) (col 0 1) ∷ []

abbrev pub reply_shown : List Term
reply_shown = col 1 3 ∷ []

-- `project = ?1 AND part = ?2`, for a row of `slot`
abbrev pub by_project_and_part : List Term
by_project_and_part = same (col 1 2) (col 0 0) ∷ same (col 1 3) (col 0 1) ∷ []

abbrev pub id_shown : List Term
id_shown = col 1 0 ∷ []
