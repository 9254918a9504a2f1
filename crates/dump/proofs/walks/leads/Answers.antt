use Rattle.std.proofs.Common.{◌∙◌}
use Rattle.lsif.specs.Lent.{lent_value}
use Rattle.dump.specs.Walks.{next_pairs}
use Rattle.dump.proofs.Ends.{each_single}
use Rattle.dump.proofs.Shortcuts.{end_test}
use Rattle.dump.proofs.walks.leads.Goals as goal

pub returns : goal.returns
returns c =
    let d = c.args.graph.now in
    c.is.ensures.value ∙ end_test (next_pairs d) (each_single d c.requires.sound) (lent_value c.args.from) (lent_value c.end_of.result) (lent_value c.args.to) c.end_of.ensures.path c.end_of.ensures.last c.requires.last
