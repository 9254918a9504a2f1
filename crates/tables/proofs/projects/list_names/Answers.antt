use Rattle.std.proofs.lemmas.List.Filters.{dedup_is}
use Rattle.dump.proofs.Listing.{sorted_listing}
use Rattle.machine.specs.Projects.{text_cmp}
use Rattle.tables.proofs.ProjectNames.{text_of, name_total, name_tie, name_one}
use Rattle.tables.proofs.projects.list_names.Goals as goal

pub returns : goal.returns
returns c = sorted_listing text_of text_cmp name_total _ name_tie name_one _ _ _ c.sort_unstable.ensures.permutation c.sort_unstable.ensures.sorted (dedup_is _ _ _ c.dedup.ensures.filtered)
