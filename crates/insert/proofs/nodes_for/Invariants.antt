-- What is counted so far, and what the levels that are left take, is the whole.
use Rattle.std.proofs.Common.{◌≡◌, ◌+◌, ◌*◌, ◌≤◌, map, take, drop}
use Rattle.tree.specs.Carry.{bump_costs}
use Rattle.insert.proofs.nodes_for.Given as goal

abbrev pub invariant-loop-step : goal.invariant-loop-step
invariant-loop-step l =
    (l.left ≤ 64) × (l.nodes ≤ 64 * l.step-index)
    × (bump_costs l.rounds l.theta (map (λ t. t.depth) (take l.levels l.fn.steps))
    ≡ l.nodes + bump_costs l.left l.theta (map (λ t. t.depth) (drop l.step-index l.step-items)))
