use Rattle.std.proofs.Common.{◌≡◌, ◌+◌, drop, option_map}
use Rattle.http_edge.specs.Heads.{find_head}
use Rattle.http_edge.proofs.head.find_head.Given as goal

abbrev pub invariant-loop-i : goal.invariant-loop-i
invariant-loop-i l = find_head l.bytes ≡ option_map (λ n. l.i + n) (find_head (drop l.i l.bytes))
