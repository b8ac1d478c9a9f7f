-- Every entry that is set is the one at so many steps, which has not been set before.
use Rattle.std.proofs.Common.{◌≡◌, ◌*◌}
use Rattle.node.specs.Node.{entry_of}
use Rattle.split.specs.Value.{with_entries}
use Rattle.split.proofs.thin.Given as goal

abbrev pub invariant-loop-j : goal.invariant-loop-j
invariant-loop-j l = l.part ≡ with_entries l.initial.part 0 l.j (λ i. entry_of l.initial.part 0 (i * l.step))
