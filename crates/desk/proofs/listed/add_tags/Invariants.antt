use Rattle.std.proofs.Common.{◌≡◌, ◌++◌, map, drop}
use Rattle.tags.specs.Views.{tag_value}
use Rattle.machine.specs.Found.{tag_found}
use Rattle.desk.specs.Steps.Listed.{is_wanted, tags_so}
use Rattle.desk.proofs.listed.add_tags.Given as goal

abbrev pub invariant-loop-tag : goal.invariant-loop-tag
invariant-loop-tag l =
    map tag_found l.found.items ++ tags_so (is_wanted l.wanted) l.project (map tag_value (drop l.tag-index l.tags))
    ≡ map tag_found l.fn.found.items ++ tags_so (is_wanted l.wanted) l.project (map tag_value l.tags)
