-- What the way from where the loop stands leads to is what the whole way leads to.
use Rattle.std.proofs.Common.{◌≡◌, ◌+◌, ◌<◌, ◌^◌}
use Rattle.search.specs.Descent.{TerminalNode}
use Rattle.search.specs.Next.{reach}
use Rattle.search.proofs.reach_from.Given as goal

abbrev pub invariant-loop-left : goal.invariant-loop-left
invariant-loop-left l =
    (l.i < 2 ^ 40) × TerminalNode l.head l.store l.n
    × (reach l.store l.head l.left l.n l.i ≡ reach l.store l.head (l.head.nodes_taken + 1) l.first l.start)
