use Rattle.std.proofs.Common.{map}
use Rattle.lsif.specs.Element.{element_value}
use Rattle.dump.specs.Walks.{next_pairs}
use Rattle.dump.proofs.Shortcuts.{edge_shortcuts}
use Rattle.dump.proofs.chain_ends.join.Goals as goal

pub returns-clause-shortcuts : goal.returns-clause-shortcuts
returns-clause-shortcuts c =
    let d = map element_value c.args.elements.now in
    edge_shortcuts (next_pairs d) d c.shorten.new.shortcuts.items c.args.from c.args.to c.end_of-end.result c.shorten.ensures.shortcuts c.requires.joins c.end_of-end.ensures
