use Rattle.std.proofs.Common.{◌+◌, ◌≤◌, ap}
use Rattle.streams.proofs.Slices.{range_drop, range_fits}
use Rattle.streams.proofs.buffer.Buffer.advance.Goals as goal

pub returns-clause-pending : goal.returns-clause-pending
returns-clause-pending c =
    let at = c.self.inside in
    let is = ap (λ h. h.pending) c.self.view_is in
    let fits : at.start + c.args.count ≤ at.end = range_fits at.bytes.items at.start at.end c.args.count c.self.invariant.0 (rw (← is) at c.requires) in
    rw (← is) (range_drop at.bytes.items at.start at.end c.args.count fits)
