use Rattle.std.proofs.Common.{◌≡◌, map}
use Rattle.std.specs.Prelude.{option_map}
use Rattle.lsif.specs.Element.{id_value}
use Rattle.flatten.specs.Rows.{mark_value as mark_row_value}
use Rattle.flatten.specs.Steps.Chains.{AreChains}
use Rattle.flatten.specs.Steps.Borne.{mark_values}
use Rattle.flatten.proofs.MarkRows.{Passing}
use Rattle.flatten.proofs.marks.add_chain.Given as goal

abbrev pub invariant-loop-step : goal.invariant-loop-step
invariant-loop-step l =
    Passing l.initial.chains.dump.now.elements l.initial.chains.borne.items (mark_values l.marks) l.number (id_value l.range) (map mark_row_value l.initial.rows.items) (option_map (λ i. id_value i.now) l.bearer) (map mark_row_value l.rows.items) l._step
    × AreChains l.chains × (l.chains.dump ≡ l.initial.chains.dump) × (l.chains.borne ≡ l.initial.chains.borne)
