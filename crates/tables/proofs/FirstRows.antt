-- The first row of an answer in order.
use Rattle.std.proofs.Common.{◌≡◌, inl, List, [], ◌∷◌, map, take, Bool, true, false, refl, sym, subst, arith, IsSorted}
use Rattle.std.specs.List.{list_all}
use Rattle.std.specs.Ordering.{is_lt}
use Rattle.std.proofs.lemmas.List.Sorted.{ranks_by, sorted_far, IsPermutation-sym}
use Rattle.sqlite_value.specs.declared.keys.Key.{Key}
use Rattle.sqlite_value.specs.Order.{Row}
use Rattle.sqlite_sql.specs.Query.{sort_cmp}
use Rattle.sqlite_sql.specs.Term.{Term, eval_all, holds}
use Rattle.sqlite_sql.proofs.QueryLemmas.{key_cmp_total}
use Rattle.sqlite_rules.specs.Lists.{Has}
use Rattle.sqlite_rules.proofs.ListLemmas.{has_filtered, has_kept}
use Rattle.tables.proofs.Ordered.{IsInOrder, at_place}
use Rattle.tables.proofs.PartRemoved.{has_permuted}
use Rattle.tables.proofs.Select.{passing}
use Rattle.tables.proofs.Selecting.{show}

module _ (tests shown : List Term) (order : List (Term × Key)) (params : Row) (rows : List Row) where
  abbrev passes : Row → Bool
  passes r = list_all (holds (params ∷ r ∷ [])) tests

  abbrev before : Row → Row → Bool
  before a b = is_lt (sort_cmp order (params ∷ a ∷ []) (params ∷ b ∷ []))

  -- what is shown of a row that passes, and before which no other that passes comes; or nothing,
  -- where none passes
  abbrev pub IsFirst : List Row → Type 0
  IsFirst [] = (row : Row) → Has rows row → passes row ≡ false
  IsFirst (given ∷ more) = (best : Row) × Has rows best × (passes best ≡ true) × (given ≡ show shown params best) × ((row : Row) → Has rows row → passes row ≡ true → before row best ≡ false)

  among : (ordered : List Row) → IsInOrder tests order params rows ordered → (row : Row) → Has rows row → passes row ≡ true → Has ordered row
  among ordered h row there ok = has_permuted ordered (passing tests params rows) row (IsPermutation-sym _ _ h.same) (has_kept _ rows row there ok)

  from : (ordered : List Row) → IsInOrder tests order params rows ordered → (row : Row) → Has ordered row → Has rows row × (passes row ≡ true)
  from ordered h row there = has_filtered _ rows row (has_permuted (passing tests params rows) ordered row h.same there)

  -- none comes before the first
  leads : (best : Row) (rest : List Row) → IsSorted (λ a b. sort_cmp order (params ∷ a ∷ []) (params ∷ b ∷ [])) (best ∷ rest) → (row : Row) → Has (best ∷ rest) row → before row best ≡ false
  leads best rest up row there =
      let it = at_place (best ∷ rest) row best there in
      subst (λ r. before r best ≡ false) it.2
      (sorted_far before (ranks_by (key_cmp_total (map (λ k. k.1) order) 0) (λ r. eval_all (map (λ k. k.0) order) (params ∷ r ∷ []))) (best ∷ rest) up 0 it.0 best (omega arith) it.1)

  fails : (b : Bool) → (b ≡ true → ⊥) → b ≡ false
  fails true never = absurd (never refl)
  fails false never = refl

  -- where an answer has one row at most
  pub first_is : (ordered given : List Row) → IsInOrder tests order params rows ordered → given ≡ take 1 (map (show shown params) ordered) → IsFirst given
  first_is [] given h is = subst IsFirst (sym is) (λ row there. fails (passes row) (λ ok. among [] h row there ok))
  first_is (best ∷ rest) given h is =
      let it = from (best ∷ rest) h best (inl refl) in
      subst IsFirst (sym is) (best, it.0, it.1, refl, λ row there ok. leads best rest h.sorted row (among (best ∷ rest) h row there ok))
