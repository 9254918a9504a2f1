use Rattle.std.proofs.Common.{◌≡◌, ◌++◌, map, drop}
use Rattle.std.specs.List.{flat_map}
use Rattle.flatten.specs.Rows.{document_value}
use Rattle.flatten.specs.Steps.Documents.{documents_in}
use Rattle.flatten.specs.Steps.Kinds.{said}
use Rattle.flatten.proofs.documents.document_rows.Given as goal

abbrev pub invariant-loop-element : goal.invariant-loop-element
invariant-loop-element l =
    map document_value l.rows.items ++ flat_map documents_in (map said (drop l.element-index l.element-items)) ≡ flat_map documents_in (map said l.element-items)
