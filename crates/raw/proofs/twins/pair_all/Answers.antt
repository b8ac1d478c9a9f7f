use native.Mathlib.Omega.{arith}
use Rattle.raw.proofs.TwinLaws.{next_first, next_turn, next_done}
use Rattle.raw.proofs.twins.pair_all.Goals as goal

pub loop-i-init : goal.loop-i-init
loop-i-init c = next_first _ _ _ _

pub loop-i-preserved : goal.loop-i-preserved
loop-i-preserved c =
    let l = c.loop-i in
    next_turn _ _ _ _ l.i _ (omega arith) l.invariant c.word-in-loop-i.ensures c.pair_below.ensures

pub returns : goal.returns
returns c =
    let l = c.loop-i in
    next_done _ _ _ _ l.i _ _ (omega arith) l.invariant c.pair.ensures c.word.ensures c.word-2.ensures c.to_index-i-end.ensures.0 c.word-3.ensures
