use native.Mathlib.Omega.{arith}
use Rattle.raw.proofs.TwinLaws.{apart_first, apart_twice, apart_more, apart_done}
use Rattle.raw.proofs.twins.apart.Goals as goal

pub loop-a-init : goal.loop-a-init
loop-a-init c = apart_first _ _ _

pub loop-a-preserved : goal.loop-a-preserved
loop-a-preserved c =
    let l = c.loop-a in
    apart_more _ _ l.a _ l.invariant (omega arith) c.to_index.ensures.0 c.word.ensures c.to_index-b.ensures.0 c.word-in-loop-a.ensures
    c.if-word-ne0.false c.put.ensures

pub returns-then-word-ne0 : goal.returns-then-word-ne0
returns-then-word-ne0 c =
    let l = c.loop-a in
    apart_twice _ _ l.a _ l.invariant (omega arith) c.to_index.ensures.0 c.word.ensures c.to_index-b.ensures.0
    c.word-in-loop-a.ensures c.if-word-ne0.true

pub returns : goal.returns
returns c = let l = c.loop-a in apart_done _ _ l.a _ l.invariant (omega arith)
