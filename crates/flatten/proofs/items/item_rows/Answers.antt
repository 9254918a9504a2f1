use Rattle.std.proofs.Common.{sym, subst}
use Rattle.std.specs.Prelude.{IsPermutation}
use Rattle.std.specs.List.Sorted.{IsNonDecreasingBy}
use Rattle.dump.specs.declared.role.Role.TheVariants.{Definitions, References}
use Rattle.flatten.specs.Steps.Items.{placed_by}
use Rattle.flatten.proofs.ItemRows.{are_numbered, each_role, each_sorted, placed_again, placed_each}
use Rattle.flatten.proofs.items.item_rows.Goals as goal

pub result_rows-requires-clause-items : goal.result_rows-requires-clause-items
result_rows-requires-clause-items c =
    let results = subst (IsNonDecreasingBy (λ p. p.0)) (sym c.deref.ensures.value) c.sort_by_source.ensures.ordered in
    let definitions = subst (IsNonDecreasingBy (λ p. p.0)) (sym c.deref-2.ensures.value) c.sort_by_source-2.ensures.ordered in
    let references = subst (IsNonDecreasingBy (λ p. p.0)) (sym c.deref-3.ensures.value) c.sort_by_source-3.ensures.ordered in
    let d = c.args.kinds.now.dump.now.elements in
    let by = each_role d _
    (placed_again (placed_by Definitions d) c.args.kinds.now.definitions.items c.deref-2.result.now c.requires.definitions (subst (IsPermutation c.args.kinds.now.definitions.items) (sym c.deref-2.ensures.value) c.sort_by_source-2.ensures.all))
    (placed_again (placed_by References d) c.args.kinds.now.references.items c.deref-3.result.now c.requires.references (subst (IsPermutation c.args.kinds.now.references.items) (sym c.deref-3.ensures.value) c.sort_by_source-3.ensures.all)) in
    record {
      sorted = record { results = results; each = each_sorted _ definitions references };
      numbered = are_numbered d _ by;
      results = subst (λ xs. IsPermutation xs c.deref.result.now) c.requires.result_pairs (subst (IsPermutation c.args.kinds.now.result_pairs.items) (sym c.deref.ensures.value) c.sort_by_source.ensures.all);
      each = placed_each d _ by;
    }
