-- The entries so far are written, each of them lifted.
use Rattle.std.proofs.Common.{◌≡◌, ◌/◌}
use Rattle.node.specs.Node.{entry_of}
use Rattle.split.specs.Value.{with_entries}
use Rattle.fuse.specs.Join.{lifted}
use Rattle.fuse.proofs.lift_entries.Given as goal

abbrev pub invariant-loop-j : goal.invariant-loop-j
invariant-loop-j l = l.to ≡ with_entries l.initial.to l.start l.j (λ i. lifted (entry_of l.node 0 (i / l.step)))
