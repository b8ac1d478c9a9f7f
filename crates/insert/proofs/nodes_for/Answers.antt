-- Each level passes on the halvings that come when its run is at theta.
use Rattle.std.proofs.Common.{take}
use native.Mathlib.Omega.{arith}
use Rattle.insert.proofs.PlanLaws.{costs_turn}
use Rattle.insert.proofs.nodes_for.Goals as goal

pub loop-step-preserved : goal.loop-step-preserved
loop-step-preserved c =
    let l = c.loop-step in (
      omega arith,
      omega arith,
      costs_turn _ (take c.to_index-n.result c.args.steps) l.step-index _ _ l.invariant.2 (omega arith) c.saturating_sub.ensures
          c.saturating_sub-left.ensures,
    )
