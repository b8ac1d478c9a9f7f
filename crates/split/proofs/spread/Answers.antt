use Rattle.std.proofs.Common.{arith}
use Rattle.split.proofs.ValueLaws.{spread_none, spread_turn}
use Rattle.split.proofs.spread.Goals as goal

pub loop-j-init : goal.loop-j-init
loop-j-init c = spread_none _ _

pub loop-j-preserved : goal.loop-j-preserved
loop-j-preserved c =
    let l = c.loop-j in
    spread_turn _ _ _ l.j _ _ (omega arith) (omega arith) l.invariant c.set_entry.ensures c.set_entry-in-loop-j.ensures
