use Rattle.std.proofs.Common.{◌≡◌, ◌∙◌, ◌++◌, map, sym, ap, subst, append-nil}
use Rattle.std.proofs.Math.ListN.{drop_of_length-le}
use Rattle.std.specs.Prelude.{Contains}
use Rattle.std.specs.Cmp.Lexicographic.{slice_cmp}
use Rattle.std.specs.List.{flat_map}
use Rattle.std.specs.Ordering.{nat_cmp}
use Rattle.dump.specs.Places.{HasDocument, IsListing}
use Rattle.flatten.specs.Rows.{document_value}
use Rattle.flatten.specs.Steps.Documents.{documents_in}
use Rattle.flatten.specs.Steps.Kinds.{AreThose, is_document, said}
use Rattle.flatten.proofs.DocumentLists.{documents_are}
use Rattle.dump.proofs.Listing.{same_listing}
use Rattle.flatten.proofs.OfKinds.{documents_of}
use Rattle.flatten.proofs.documents.document_rows.Goals as goal

pub returns : goal.returns
returns c =
    let d = c.args.kinds.now.dump.now.elements in
    let list = c.deref-element-items.result.now in
    let those = subst (AreThose is_document d) (sym c.deref-element-items.ensures.value) c.requires.documents in
    let found = map document_value c.loop-element.rows.items in
    let sorted = map document_value c.list_documents.new.rows.items in
    let empty = drop_of_length-le list c.loop-element-test.false in
    let all : found ≡ flat_map documents_in d = sym (append-nil found) ∙ ap (λ es. found ++ flat_map documents_in (map said es)) (sym empty) ∙ c.loop-element.invariant ∙ documents_of d list those in
    let listed = subst (λ xs. IsListing (slice_cmp nat_cmp) (Contains xs) sorted) all c.list_documents.ensures in
    same_listing (slice_cmp nat_cmp) (Contains (flat_map documents_in d)) (HasDocument d) sorted (documents_are d (c.vertex_law.ensures d c.requires.faultless)) listed
