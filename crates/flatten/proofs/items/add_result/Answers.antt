use Rattle.std.proofs.Common.{ℕ, map, sym, subst, arith}
use Rattle.std.specs.Prelude.{◌↔◌, Contains}
use Rattle.dump.specs.Walks.{Path}
use Rattle.dump.specs.declared.role.Role.TheVariants.{Definitions, References}
use Rattle.flatten.specs.Steps.Items.{IsReachedRow, found_value, rows_of_role}
use Rattle.flatten.specs.Steps.Tables.{OfOne}
use Rattle.flatten.proofs.ItemRows.{IsRowFor, reached_rows}
use Rattle.flatten.proofs.Listing.{adds_end, adds_next, adds_same, adds_two}
use Rattle.std.proofs.Common.{get_or}
use Rattle.flatten.proofs.items.add_result.Goals as goal

pub loop-other-preserved : goal.loop-other-preserved
loop-other-preserved c =
    let items = c.args.items.now in
    let number = c.args.number in
    let others = c.numbers-other-items.result.now in
    let k = c.loop-other.other-index in
    let other = get_or others k 0 in (
      adds_next (IsRowFor number items) _ _ _ others k 0 (omega (arith, c.loop-other-test.true)) c.loop-other.invariant.0
          (adds_two _ _ _ (rows_of_role number Definitions items other) (rows_of_role number References items other) c.in_ok-add_role.ensures.rows c.in_ok-add_role-2.ensures.rows),
      c.in_ok-add_role-2.ensures.numbered,
    )

pub returns-clause-rows : goal.returns-clause-rows
returns-clause-rows c =
    let items = c.args.items.now in
    let number = c.args.number in
    let others = c.numbers-other-items.result.now in
    let start = map found_value c.args.rows.now.items in
    let rows = map found_value c.loop-other.rows.items in
    let all : (y : ℕ) → Contains others y ↔ Path items.results.now number y = subst (λ ns. (y : ℕ) → Contains ns y ↔ Path items.results.now number y) (sym c.numbers-other-items.ensures) c.in_ok-found.ensures in
    adds_same start (OfOne (IsRowFor number items) others) (IsReachedRow number items) rows (reached_rows number items others all)
    (adds_end (IsRowFor number items) start rows others c.loop-other.other-index (omega (arith, c.loop-other-test.false)) c.loop-other.invariant.0)
