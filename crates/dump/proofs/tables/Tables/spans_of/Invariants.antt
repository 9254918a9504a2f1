use Rattle.std.proofs.Common.{◌≡◌, ◌++◌, map}
use Rattle.lsif.specs.Element.{element_value}
use Rattle.dump.specs.Contained.{spans_of}
use Rattle.dump.proofs.tables.Tables.spans_of.Given as goal

abbrev pub invariant-loop-id : goal.invariant-loop-id
invariant-loop-id l = l.found.items ++ spans_of (map element_value l.elements) l.id-iterator ≡ spans_of (map element_value l.elements) l.fn.ids
