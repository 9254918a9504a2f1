use Rattle.std.proofs.Common.{[], map, take}
use Rattle.flatten.specs.Steps.Borne.{IsBorneBy}
use Rattle.flatten.specs.Steps.Tables.{Adds, OfOne}
use Rattle.flatten.specs.Steps.Kinds.{said}
use Rattle.flatten.proofs.borne.borne.Given as goal

abbrev pub invariant-loop-element : goal.invariant-loop-element
invariant-loop-element l =
    Adds [] (OfOne (IsBorneBy l.kinds.dump.now.elements l.attached.items) (take l.element-index (map said l.element-items))) l.pairs.items
