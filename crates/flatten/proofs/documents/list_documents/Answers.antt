use Rattle.std.specs.Cmp.Lexicographic.{slice_cmp}
use Rattle.std.specs.Ordering.{nat_cmp}
use Rattle.std.proofs.lemmas.List.Filters.{dedup_is}
use Rattle.flatten.specs.Rows.{document_value}
use Rattle.dump.proofs.Listing.{sorted_listing}
use Rattle.flatten.proofs.RowOrders.{document_total, document_ties, document_same}
use Rattle.flatten.proofs.documents.list_documents.Goals as goal

pub returns : goal.returns
returns c = sorted_listing document_value (slice_cmp nat_cmp) document_total _ document_ties document_same _ _ _ c.sort_unstable.ensures.permutation c.sort_unstable.ensures.sorted (dedup_is _ _ _ c.dedup.ensures.filtered)
