use Rattle.std.proofs.Common.{ap, ◌∙◌, arith}
use Rattle.streams.proofs.Slices.{filled, range_kept}
use Rattle.streams.proofs.buffer.Buffer.fill.Goals as goal

pub returns-clause-bytes : goal.returns-clause-bytes
returns-clause-bytes g c =
    let room = c.make_room-start.ensures in
    let pulled = c.pull_after-pulled.ensures in
    let is = range_kept c.make_room-start.new.bytes.items c.pull_after-pulled.new.bytes.items _ _ room.ordered pulled.kept ∙ room.same ∙ ap (λ h. h.pending) c.self.view_is in
    filled _ _ _ _ _ _ _ room.ordered (omega (arith, room.room, pulled.len)) (omega (arith, c.in_ok-count.ensures.within, pulled.len)) is c.in_ok-count.ensures.pulled
