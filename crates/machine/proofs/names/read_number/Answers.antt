use Rattle.std.proofs.Common.{rules, ◌∙◌}
use Rattle.machine.proofs.Numbers.{spells, spells_none, spells_zero, spells_below, spells_low, spells_above}
use Rattle.machine.proofs.names.read_number.Goals as goal

pub returns-in_err-number-in-49-to-57-clause-value : goal.returns-in_err-number-in-49-to-57-clause-value
returns-in_err-number-in-49-to-57-clause-value c = c.from_residual.ensures ∙ spells_none _ (search rules)

pub returns-in-48-clause-value : goal.returns-in-48-clause-value
returns-in-48-clause-value c = spells_zero _ (search rules) (search rules) (search rules)

pub returns-then-number-lt-NUMBER_LIMIT-clause-value : goal.returns-then-number-lt-NUMBER_LIMIT-clause-value
returns-then-number-lt-NUMBER_LIMIT-clause-value c = spells _ _ (search rules)

pub returns-else-number-lt-NUMBER_LIMIT-clause-value : goal.returns-else-number-lt-NUMBER_LIMIT-clause-value
returns-else-number-lt-NUMBER_LIMIT-clause-value c = spells_none _ (search rules)

pub returns-in_default-clause-value : goal.returns-in_default-clause-value
returns-in_default-clause-value c = spells_none _ (search rules)

pub returns-in_default-2-clause-value : goal.returns-in_default-2-clause-value
returns-in_default-2-clause-value c = spells_below _ (search rules)

pub returns-in_default-3-clause-value : goal.returns-in_default-3-clause-value
returns-in_default-3-clause-value c = spells_above _ (search rules)

pub returns-in_default-4-clause-value : goal.returns-in_default-4-clause-value
returns-in_default-4-clause-value c = spells_low _ (search rules) (search rules)

pub returns-in_default-5-clause-value : goal.returns-in_default-5-clause-value
returns-in_default-5-clause-value c = spells_above _ (search rules)
