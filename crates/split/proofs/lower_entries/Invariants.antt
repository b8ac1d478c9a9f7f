-- The entries so far are copied, and the running value is the largest of their new depths.
use Rattle.std.proofs.Common.{◌≡◌, ◌+◌}
use Rattle.tree.specs.Node.{lowered}
use Rattle.node.specs.Node.{entry_of}
use Rattle.split.specs.Value.{with_entries, running}
use Rattle.split.proofs.lower_entries.Given as goal

abbrev pub invariant-loop-j : goal.invariant-loop-j
invariant-loop-j l =
    record {
      copied : l.to ≡ with_entries l.initial.to 0 l.j (λ i. lowered (entry_of l.node 0 (l.start + i)));
      kept : l.largest ≡ running l.node l.start l.j;
    }
