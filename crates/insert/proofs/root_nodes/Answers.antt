-- One more root.
use Rattle.std.proofs.Common.{◌≡◌, ◌≤◌, ◌-◌}
use native.Mathlib.Omega.{arith}
use Rattle.insert.proofs.PlanLaws.{root_more}
use Rattle.insert.proofs.root_nodes.Goals as goal

pub loop-left-preserved : goal.loop-left-preserved
loop-left-preserved c =
    let l = c.loop-left in
    let some : 1 ≤ l.left = omega arith in
    let less : c.saturating_sub-left.result ≡ l.left - c.args.theta = omega arith in
    (root_more _ _ _ _ l.invariant.0 less c.requires.0 some, omega arith, omega (arith, less, some, c.requires.0, l.invariant.2))
