use Rattle.std.proofs.Common.{◌≡◌, ◌++◌, map, drop}
use Rattle.lsif.specs.Element.{element_value}
use Rattle.flatten.specs.Steps.Borne.{mark_text, mark_values}
use Rattle.flatten.specs.Steps.Marks.{marks_in}
use Rattle.flatten.proofs.borne.moniker_marks.Given as goal

abbrev pub invariant-loop-element : goal.invariant-loop-element
invariant-loop-element l = mark_values l.marks.items ++ map (mark_text l.dump.elements) (map element_value (drop l.element-index l.element-items)) ≡ marks_in l.dump.elements
