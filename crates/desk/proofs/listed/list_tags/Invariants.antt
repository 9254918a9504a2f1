use Rattle.std.proofs.Common.{◌≡◌, ◌++◌, map}
use Rattle.std.specs.Prelude.{option_map}
use Rattle.machine.specs.Found.{tag_found}
use Rattle.desk.specs.Steps.Listed.{is_wanted, tags_of, AllRise}
use Rattle.desk.proofs.listed.list_tags.Given as goal

abbrev pub invariant-loop-name : goal.invariant-loop-name
invariant-loop-name l = record {
  listed : map tag_found l.found.items ++ tags_of (is_wanted l.wanted) (option_map (λ p. p.now) l.asked) l.name-iterator ≡ tags_of (is_wanted l.wanted) (option_map (λ p. p.now) l.asked) l.projects.entries;
  rising : AllRise l.name-iterator → AllRise l.projects.entries;
}
