-- What is left to join from the node in hand is the whole.
use Rattle.std.proofs.Common.{◌≡◌, true, [], ◌+◌, ◌-◌}
use Rattle.store.specs.Format.{width}
use Rattle.remove.specs.Remove.{node_joins}
use Rattle.siblings.specs.Marks.{Tracks, Passed}
use Rattle.siblings.specs.Nodes.{NodesR, spot_is, HandFine}
use Rattle.siblings.proofs.NodeJoinLaws.{Noding}
use Rattle.siblings.proofs.join_nodes.Given as goal

abbrev pub invariant-loop-n : goal.invariant-loop-n
invariant-loop-n l =
    HandFine l.f l.head.theta l.m (l.used - l.n) l.hand
    × ((g : NodesR) → g.ok ≡ true → g.spot ≡ spot_is l.first l.used l.first l.fn.hand → g.released ≡ [] → Tracks (width l.f) l.key g.reached l.fn.marks
    → Noding l.f l.store l.head l.key l.level l.m l.q (node_joins l.f l.store l.head l.key l.level l.m l.q l.used g) l.number (l.used - l.n) l.last
    l.at (l.at + l.n) l.hand l.fn.gone l.gone l.marks)
    × Passed l.f l.store l.head l.marks
