-- Rows that are read one after the other.
use Rattle.std.proofs.Common.{◌≡◌, inl, inr, ℕ, suc, List, [], ◌∷◌, ◌++◌, length, map, Some, None, refl, sym, ◌∙◌, arith}
use Rattle.sqlite_value.specs.declared.value.Value.{Value}
use Rattle.sqlite_value.specs.Order.{Row}
use Rattle.sqlite_rules.specs.Lists.{Has}
use Rattle.tables.specs.Steps.Selected.{AreColumns, AreRead, IsFirstRead}

later : (at : ℕ) (vs : List Value) (r : Value) (row : Row) → AreColumns (suc at) vs (r ∷ row) → AreColumns at vs row
later at [] r row h = tt
later at (v ∷ vs) r row h = (h.0, later (suc at) vs r row h.1)

-- columns that are all of the row are the row
pub columns_are : (vs : List Value) (row : Row) → length row ≡ length vs → AreColumns 0 vs row → row ≡ vs
columns_are [] [] same h = refl
columns_are [] (r ∷ row) same h = absurd (omega (arith, same))
columns_are (v ∷ vs) [] same h = absurd (omega (arith, same))
columns_are (v ∷ vs) (r ∷ row) same h =
    let rest = columns_are vs row (omega (arith, same)) (later 0 vs r row h.1) in
    let first : r ≡ v = h.0 in
    cc

module _ {X : Type 0} (columns : X → List Value) where
  pub are_read_push : (rows : List Row) (xs : List X) (row : Row) (x : X) → AreRead columns rows xs → AreColumns 0 (columns x) row → AreRead columns (rows ++ row ∷ []) (xs ++ x ∷ [])
  are_read_push [] [] row x h one = (one, tt)
  are_read_push [] (y ∷ ys) row x h one = absurd h
  are_read_push (r ∷ rows) [] row x h one = absurd h
  are_read_push (r ∷ rows) (y ∷ ys) row x h one = (h.0, are_read_push rows ys row x h.1 one)

  -- where each row is as wide as what is read, nothing is left out
  pub rows_are : (n : ℕ) → ((x : X) → length (columns x) ≡ n) → (rows : List Row) (xs : List X) → ((r : Row) → Has rows r → length r ≡ n) → AreRead columns rows xs → rows ≡ map columns xs
  rows_are n wide [] [] width h = refl
  rows_are n wide [] (x ∷ xs) width h = absurd h
  rows_are n wide (r ∷ rows) [] width h = absurd h
  rows_are n wide (r ∷ rows) (x ∷ xs) width h =
      let first = columns_are (columns x) r (width r (inl refl) ∙ sym (wide x)) h.0 in
      let rest = rows_are n wide rows xs (λ q there. width q (inr there)) h.1 in
      cc

  pub first_of : (rows : List Row) → rows ≡ [] → IsFirstRead columns rows None
  first_of [] e = tt
  first_of (r ∷ rows) e = absurd cc

  pub first_is : (rows : List Row) (row : Row) (x : X) → (rest : List Row) × (rows ≡ row ∷ rest) → AreColumns 0 (columns x) row → IsFirstRead columns rows (Some x)
  first_is [] row x is h = absurd (let e = is.1 in cc)
  first_is (r ∷ rows) row x is h = let e : r ≡ row = let f = is.1 in cc in rw e h
