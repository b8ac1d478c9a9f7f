-- What is left of the way, from the node and the level that the loop has reached, is the whole way.
use Rattle.std.proofs.Common.{◌≡◌, ◌≤◌}
use Rattle.store.specs.Format.{width}
use Rattle.store.specs.Head.{InUse}
use Rattle.search.specs.Descent.{descend, descent}
use Rattle.search.proofs.descend.Given as goal

abbrev pub invariant-loop-below : goal.invariant-loop-below
invariant-loop-below l =
    (l.below ≤ 32) × (l.used ≤ width l.f) × (1 ≤ l.below → InUse l.head l.node)
    × (descend l.f l.store l.head l.key l.below l.node l.used l.steps ≡ descent l.f l.store l.head l.key)
