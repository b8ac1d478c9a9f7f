-- The largest so far.
use Rattle.std.proofs.Common.{◌≡◌}
use Rattle.lists.specs.Lists.{greatest}
use Rattle.node.specs.Node.{entry_depth}
use Rattle.fuse.proofs.largest_depth.Given as goal

abbrev pub invariant-loop-j : goal.invariant-loop-j
invariant-loop-j l = l.largest ≡ greatest l.j (entry_depth l.part 0)
