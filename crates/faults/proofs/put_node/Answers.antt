use native.Mathlib.Omega.{arith}
use Rattle.faults.proofs.Laws.{entries_first, entries_turn, entries_out, node_put_lem}
use Rattle.faults.proofs.put_node.Goals as goal

pub loop-j-init : goal.loop-j-init
loop-j-init c = entries_first _ _ _ _ _

pub loop-j-preserved : goal.loop-j-preserved
loop-j-preserved c =
    let l = c.loop-j in
    entries_turn _ _ _ _ l.j _ l.invariant (omega arith) c.put-in-loop-j.ensures c.put-in-loop-j-2.ensures

pub returns : goal.returns
returns c =
    let l = c.loop-j in
    node_put_lem _ _ _ _ c.node_at-at.ensures.0 c.pow2-j-end.ensures.0 c.put.ensures c.put-2.ensures
    (entries_out _ _ _ _ l.j _ l.invariant (omega arith))
