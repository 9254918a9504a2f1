use Rattle.std.proofs.Common.{rules, inl, inr, take, sym, subst}
use Rattle.std.specs.List.{flat_map}
use Rattle.sqlite_rules.specs.Lists.{Has}
use Rattle.flatten.specs.Rows.{bearer_value}
use Rattle.tables.specs.Columns.{bearer_more}
use Rattle.tables.specs.Steps.Next.{IsNext}
use Rattle.tables.proofs.more.is_listed.Goals as goal

pub returns-else-is_of_last-clause-each : goal.returns-else-is_of_last-clause-each
returns-else-is_of_last-clause-each c next row has h = elim h [
  | inl range ↦ c.is_of_range.ensures.each (take c.args.at c.args.rows.now.bearers.items) next row has range
  | inr earlier ↦
      let same = sym c.deref.ensures.value in
      let yes = c.is_of_last.ensures.each c.args.rows.now (subst (λ l. IsNext c.args.rows.now (take c.args.at l) c.args.bearer.now) same next) row has
      (subst (λ l. Has (flat_map (λ b. bearer_more (bearer_value b)) (take c.args.at l)) row) same earlier)
      in
      search rules
]
