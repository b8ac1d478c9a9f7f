use mathlib.Core.Path.{◌≡◌, ◌∙◌}
use native.Mathlib.Omega.{arith}
use Rattle.stretches.proofs.Laws.{from_first, from_found, from_more, from_out}
use Rattle.stretches.proofs.from_on.Goals as goal

pub loop-i-init : goal.loop-i-init
loop-i-init c = (omega arith, from_first _ _ _ _ c.word-n.ensures)

pub loop-i-preserved : goal.loop-i-preserved
loop-i-preserved c =
    let l = c.loop-i in
    (omega arith, from_more _ _ _ _ l.i l.invariant.1 (omega arith) c.element.ensures c.widen.ensures.0 c.if-widen-key.false)

pub returns-then-widen-key : goal.returns-then-widen-key
returns-then-widen-key c =
    let l = c.loop-i in
    from_found _ _ _ _ l.i l.invariant.1 (omega arith) c.element.ensures c.widen.ensures.0 c.if-widen-key.true

pub returns : goal.returns
returns c =
    let l = c.loop-i in
    let last : c.max.result ≡ l.i = omega arith in
    last ∙ from_out _ _ _ _ l.i l.invariant.1 (omega arith)
