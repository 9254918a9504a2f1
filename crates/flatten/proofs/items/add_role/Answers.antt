use Rattle.std.proofs.Common.{◌≡◌, ◌∙◌, ◌==◌, ℕ, List, filter, sym, ap, subst}
use Rattle.std.specs.Borrow.{Bor}
use Rattle.std.specs.List.{All}
use Rattle.std.proofs.lemmas.List.Elements.{All-filter}
use Rattle.flatten.specs.Steps.Places.{IsNumbered}
use Rattle.flatten.specs.declared.places.Place.{Place}
use Rattle.dump.specs.declared.role.Role.TheVariants.{Definitions, References}
use Rattle.flatten.proofs.items.add_role.Goals.{in-Definitions, in-References}
use Rattle.flatten.proofs.items.add_role.Goals as goal

-- the pairs out of a source have the numbers of their spans, where all have
numbered_from : (items found : List (ℕ × Place)) (other : ℕ) → found ≡ filter (λ p. p.0 == other) items → All (λ p. IsNumbered p.1) items → All (λ p. IsNumbered p.1) found
numbered_from items found other is all = subst (All (λ (p : ℕ × Place). IsNumbered p.1)) (sym is) (All-filter (λ (p : ℕ × Place). p.0 == other) (λ (p : ℕ × Place). IsNumbered p.1) items all)

pub pairs_from-found-requires : goal.pairs_from-found-requires
pairs_from-found-requires c = c.requires.sorted.each Definitions

pub pairs_from-found-requires-in-References : goal.pairs_from-found-requires-in-References
pairs_from-found-requires-in-References c = c.requires.sorted.each References

pub add_rows-requires-clause-items : goal.add_rows-requires-clause-items
add_rows-requires-clause-items c = elim c.match-role.branch [
  | in-Definitions w ↦ numbered_from c.args.items.now.definitions.now c.match-role.found.now c.args.other (ap (λ (b : Bor (List (ℕ × Place))). b.now) w.found-is ∙ w.pairs_from-found.ensures) (c.requires.items Definitions)
  | in-References w ↦ numbered_from c.args.items.now.references.now c.match-role.found.now c.args.other (ap (λ (b : Bor (List (ℕ × Place))). b.now) w.found-is ∙ w.pairs_from-found-in-References.ensures) (c.requires.items References)
]
