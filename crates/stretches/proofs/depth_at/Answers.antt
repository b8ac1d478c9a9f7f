use native.Mathlib.Omega.{arith}
use Rattle.stretches.proofs.Laws.{depth_first, depth_found, depth_more, depth_out}
use Rattle.stretches.proofs.depth_at.Goals as goal

pub loop-depth-init : goal.loop-depth-init
loop-depth-init c = depth_first _ _ _ _ c.shortest-depth.ensures

pub loop-depth-preserved : goal.loop-depth-preserved
loop-depth-preserved c =
    let l = c.loop-depth in
    depth_more _ _ _ _ l.depth l.invariant (omega arith) c.halved.ensures c.if-not-halved.false-raw

pub returns-then-not-halved : goal.returns-then-not-halved
returns-then-not-halved c =
    let l = c.loop-depth in
    depth_found _ _ _ _ l.depth l.invariant (omega arith) c.halved.ensures c.if-not-halved.true-raw

pub returns : goal.returns
returns c = let l = c.loop-depth in depth_out _ _ _ _ l.depth l.invariant (omega arith)
