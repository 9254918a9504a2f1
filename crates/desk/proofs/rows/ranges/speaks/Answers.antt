use Rattle.std.proofs.Common.{Global, ◌≡◌, ◌∙◌, ◌≤◌, inr, ⊎_elim, ℕ, List, [], ◌∷◌, length, map, true, false, sym, string_bytes, rules, arith}
use Rattle.std.specs.Prelude.{Contains, String, is_some}
use Rattle.machine.specs.Selections.{range_found}
use Rattle.desk.specs.Steps.Rows.{IsRowKey}
use Rattle.streams.proofs.Members.{contains_head, not_in_nil}
use Rattle.desk.proofs.rows.ranges.speaks.Goals as goal

some_text : (xs : List (String Global)) → 1 ≤ length xs → (text : List ℕ) × Contains (map string_bytes xs) text
some_text [] le = absurd (omega (arith, le))
some_text (x ∷ xs) le = (string_bytes x, contains_head (string_bytes x) (map string_bytes xs))

not_empty : (xs : List (String Global)) (text : List ℕ) → Contains (map string_bytes xs) text → 1 ≤ length xs
not_empty [] text at = absurd (not_in_nil text at)
not_empty (x ∷ xs) text at = omega arith

pub returns-clause-found : goal.returns-clause-found
returns-clause-found g c = λ s m stood.
    let e = c.in_ok-keys.ensures in
    let keys = c.in_ok-keys.keys.items in
    let range = c.args.range.now in
    let none : is_some (range_found range).result ≡ false = search rules in (
      (λ some.
          let more : 1 ≤ length keys = search rules in
          let t = some_text keys more in
          inr (t.0, (e.found s m stood t.0).0 t.1)),
      (λ speaks. ⊎_elim
          (λ (some : is_some (range_found range).result ≡ true). let clash : false ≡ true = sym none ∙ some in cc)
          (λ (key : (text : List ℕ) × IsRowKey m c.args.request c.args.project.now range.line text).
          let more : 1 ≤ length keys = not_empty keys key.0 ((e.found s m stood key.0).1 key.1) in
          search rules)
          speaks),
    )
