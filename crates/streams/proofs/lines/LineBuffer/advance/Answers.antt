use Rattle.std.proofs.Common.{◌≡◌, None, rules}
use Rattle.streams.specs.Lines.{over, shown}
use Rattle.streams.proofs.NextLines.{next_line}
use Rattle.streams.proofs.lines.LineBuffer.advance.Goals as goal

pub returns-in-None : goal.returns-in-None
returns-in-None g c =
    let sound : c.args.self.now.fault ≡ None = search rules in
    let old = over c.args.self.now (g.S.Source.left c.args.source.now) (g.S.Source.failed c.args.source.now) in
    let new = over c.take_next.new.self (g.S.Source.left c.take_next.new.source) (g.S.Source.failed c.take_next.new.source) in
    next_line old (shown c.take_next.result c.take_next.new.self.line) new sound c.take_next.ensures
