use native.Mathlib.Omega.{arith}
use Rattle.stretches.proofs.Laws.{deep_first, deep_past, deep_found, deep_more, deep_out}
use Rattle.stretches.proofs.deep.Goals as goal

pub loop-i-init : goal.loop-i-init
loop-i-init c = deep_first _ _ _ _ _ c.end_of-end.ensures c.saturating_add-most.ensures c.word-i-end.ensures

pub loop-i-preserved : goal.loop-i-preserved
loop-i-preserved c =
    let l = c.loop-i in
    deep_more _ _ _ _ l.i l.invariant (omega arith) c.element.ensures c.widen.ensures.0 c.if-widen-end.false
    c.element-in-loop-i.ensures c.if-element-most.false

pub returns-then-widen-end : goal.returns-then-widen-end
returns-then-widen-end c =
    let l = c.loop-i in
    deep_past _ _ _ _ l.i l.invariant (omega arith) c.element.ensures c.widen.ensures.0 c.if-widen-end.true

pub returns-then-element-most : goal.returns-then-element-most
returns-then-element-most c =
    let l = c.loop-i in
    deep_found _ _ _ _ l.i l.invariant (omega arith) c.element.ensures c.widen.ensures.0 c.if-widen-end.false
    c.element-in-loop-i.ensures c.if-element-most.true

pub returns : goal.returns
returns c = let l = c.loop-i in deep_out _ _ _ _ l.i l.invariant (omega arith)
