-- A new root passes on what is left of theta halvings: the nodes so far, and those of the halvings that are left, are the whole.
use Rattle.std.proofs.Common.{◌≡◌, [], ◌+◌, ◌*◌, ◌≤◌}
use Rattle.tree.specs.Carry.{bump_costs}
use Rattle.insert.proofs.root_nodes.Given as goal

abbrev pub invariant-loop-left : goal.invariant-loop-left
invariant-loop-left l =
    (bump_costs l.rounds l.theta [] ≡ l.nodes + bump_costs l.left l.theta []) × (l.left ≤ 64) × (l.nodes + 64 * l.left ≤ 4096)

abbrev pub decreases-loop-left : goal.decreases-loop-left
decreases-loop-left l = l.left
