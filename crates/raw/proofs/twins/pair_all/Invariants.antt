-- The nodes of the queue from place i on, after those so far, are all nodes.
use mathlib.Core.Path.{◌≡◌}
use Prim.Native.Nat.{◌-◌}
use Rattle.raw.specs.Twins.{both, paired_next}
use Rattle.raw.proofs.twins.pair_all.Given as goal

abbrev pub invariant-loop-i : goal.invariant-loop-i
invariant-loop-i l =
    paired_next l.x l.y (both l.twins l.queue) l.i (l.i-end - l.i)
    ≡ paired_next l.x l.y (both l.initial.twins l.initial.queue) 0 l.i-end
