-- The entries from entry j on, written after those so far, are all entries of the node.
use mathlib.Core.Path.{◌≡◌}
use Prim.Native.Nat.{◌-◌}
use Rattle.faults.specs.Faults.{entries_put}
use Rattle.faults.proofs.put_node.Given as goal

abbrev pub invariant-loop-j : goal.invariant-loop-j
invariant-loop-j l =
    entries_put l.store l.at l.depth l.pointer l.j (l.j-end - l.j) ≡ entries_put l.initial.store l.at l.depth l.pointer 0 l.j-end
