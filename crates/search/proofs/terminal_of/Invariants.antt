-- What is left of the way to the terminal node is the whole way.
use Rattle.std.proofs.Common.{◌≡◌, ◌≤◌, ◌-◌}
use Rattle.store.specs.Format.{width}
use Rattle.store.specs.Head.{InUse}
use Rattle.search.specs.Descent.{terminal_from, terminal}
use Rattle.search.proofs.terminal_of.Given as goal

abbrev pub invariant-loop-below : goal.invariant-loop-below
invariant-loop-below l =
    (1 ≤ l.below) × (l.used ≤ width l.f) × (InUse l.head l.node)
    × (terminal_from l.f l.store l.head l.key (l.below - 1) l.node l.used ≡ terminal l.f l.store l.head l.key)
