use Rattle.std.specs.Prelude.{option_map}
use Rattle.desk.proofs.MemoryTags.{wanted_tags}
use Rattle.desk.proofs.memory_index.MemoryIndexIndex.tags.Goals as goal

pub returns-clause-found : goal.returns-clause-found
returns-clause-found c = λ _ m stands.
    let listed = c.in_ok-found.ensures in
    wanted_tags m (option_map (λ p. p.now) c.args.project) c.args.self.now.projects stands.0 listed.ordered listed.rising c.args.wanted c.in_ok-found.found.items c.order_tags.new.found.items listed.found c.order_tags.ensures
