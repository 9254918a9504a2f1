-- The rows that an INSERT makes of its values: each takes the next ones, behind a rowid that is
-- chosen for it.
use Rattle.std.proofs.Common.{◌≡◌, ◌∙◌, ◌++◌, ◌+◌, ℕ, zero, suc, List, [], ◌∷◌, length, map, take, drop, flat_map, append_assoc, length-append, refl, sym, ap}
use Rattle.std.specs.List.{range_with_len}
use Rattle.std.proofs.lemmas.List.{take_at, drop_at}
use Rattle.sqlite_value.specs.declared.value.Value.{Value}
use Rattle.sqlite_value.specs.declared.value.Value.TheVariants.{Null}
use Rattle.sqlite_value.specs.Order.{Row, column}
use Rattle.sqlite_sql.specs.Term.{Term, eval, eval_all, col}
use Rattle.sqlite.specs.Effect.{value_rows}
use Rattle.tables.proofs.Commands.{row_terms}

-- the value behind some values
at_place : (before : Row) (x : Value) (after : Row) → column (before ++ (x ∷ after)) (length before) ≡ x
at_place [] x after = refl
at_place (b ∷ before) x after = at_place before x after

-- the columns of some values, behind others
columns_at : (before row after : Row) → map (column (before ++ (row ++ after))) (range_with_len (length before) (length row)) ≡ row
columns_at before [] after = refl
columns_at before (x ∷ row) after =
    let moved : before ++ (x ∷ (row ++ after)) ≡ (before ++ x ∷ []) ++ (row ++ after) = sym (append_assoc before (x ∷ []) (row ++ after)) in
    let further : length before + 1 ≡ length (before ++ x ∷ []) = sym (length-append before (x ∷ [])) in
    ap (λ (v : Value). v ∷ map (column (before ++ (x ∷ (row ++ after)))) (range_with_len (length before + 1) (length row))) (at_place before x (row ++ after))
    ∙ ap (λ (l : Row). x ∷ l) (rw (moved, further) (columns_at (before ++ x ∷ []) row after))

evaluated : (params : Row) (places : List ℕ) → map (λ t. eval t (params ∷ [])) (map (col 0) places) ≡ map (column params) places
evaluated params [] = refl
evaluated params (at ∷ places) = ap (λ (l : Row). column params at ∷ l) (evaluated params places)

length_terms : (from width : ℕ) → length (map (col 0) (range_with_len from width)) ≡ width
length_terms from zero = refl
length_terms from (suc width) = ap suc (length_terms (from + 1) width)

-- rows of one width, each of the next values
rows_behind : {X : Type 0} (columns : X → Row) (width : ℕ) → ((x : X) → length (columns x) ≡ width) → (before : Row) (rows : List X)
    → value_rows (before ++ flat_map columns rows) (suc width) (length rows) (row_terms (length before) width (length rows)) ≡ map (λ x. Null ∷ columns x) rows
rows_behind columns width wide before [] = refl
rows_behind {X} columns width wide before (x ∷ rows) =
    let row : Row = columns x in
    let params : Row = before ++ (row ++ flat_map columns rows) in
    let own : List Term = map (col 0) (range_with_len (length before) width) in
    let later : List Term = row_terms (length before + width) width (length rows) in
    let first : eval_all (take width (own ++ later)) (params ∷ []) ≡ row =
    ap (λ (l : List Term). eval_all l (params ∷ [])) (take_at own later width (length_terms (length before) width))
    ∙ (evaluated params (range_with_len (length before) width)
    ∙ (ap (λ n. map (column params) (range_with_len (length before) n)) (sym (wide x)) ∙ columns_at before row (flat_map columns rows))) in
    let moved : params ≡ (before ++ row) ++ flat_map columns rows = sym (append_assoc before row (flat_map columns rows)) in
    let further : length before + width ≡ length (before ++ row) = ap (λ n. length before + n) (sym (wide x)) ∙ sym (length-append before row) in
    let rest : value_rows params (suc width) (length rows) later ≡ map (λ y. Null ∷ columns y) rows = rw (moved, further) (rows_behind columns width wide (before ++ row) rows) in
    ap (λ (l : Row). (Null ∷ l) ∷ value_rows params (suc width) (length rows) (drop width (own ++ later))) first
    ∙ ap (λ (l : List Row). (Null ∷ row) ∷ l) (ap (value_rows params (suc width) (length rows)) (drop_at own later width (length_terms (length before) width)) ∙ rest)

-- the rows of all values
pub rows_of_values : {X : Type 0} (columns : X → Row) (width : ℕ) → ((x : X) → length (columns x) ≡ width) → (rows : List X)
    → value_rows (flat_map columns rows) (suc width) (length rows) (row_terms 0 width (length rows)) ≡ map (λ x. Null ∷ columns x) rows
rows_of_values columns width wide rows = rows_behind columns width wide [] rows
