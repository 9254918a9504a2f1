use Rattle.std.proofs.Common.{rules, ◌≡◌, ◌++◌, None}
use Rattle.streams.specs.Buffered.{unread}
use Rattle.streams.specs.Pieces.{begun}
use Rattle.streams.proofs.NextLines.{gives_none}
use Rattle.streams.proofs.lines.LineBuffer.take_next.Goals as goal

pub returns-in-Ok-None : goal.returns-in-Ok-None
returns-in-Ok-None g c =
    let pending : c.args.self.now.pending ≡ begun c.self.inside.cutter ++ c.self.inside.buffer.pending = search rules in
    let fault : c.self.inside.fault ≡ None = search rules in
    let longest : c.cut_line.new.cutter.longest ≡ c.args.self.now.longest = search rules in
    let cut = rw c.in-Ok-None.field-0-is at c.in-Ok-None.ensures.cut in
    let left = unread (begun c.cut_line.new.cutter ++ c.cut_line.new.buffer.pending) (g.S.Source.left c.cut_line.new.source) in
    (fault, c.in-Ok-None.ensures.counted, longest, rw pending (gives_none (unread (begun c.self.inside.cutter ++ c.self.inside.buffer.pending) (g.S.Source.left c.args.source.now)) c.cut_line.new.cutter.line left cut.1))
