use mathlib.Core.Path.{◌∙◌, refl}
use native.Mathlib.Omega.{arith}
use Rattle.stretches.proofs.Laws.{swept_first, swept_full, swept_more, swept_out}
use Rattle.stretches.proofs.sweep_over.Goals as goal

pub loop-turn-init : goal.loop-turn-init
loop-turn-init c = refl

pub loop-turn-preserved : goal.loop-turn-preserved
loop-turn-preserved c =
    let l = c.loop-turn in
    swept_more _ _ _ _ 4095 l._turn l.invariant (omega arith) c.if-sweep-ge-KEYS.false c.step-sweep.ensures

pub returns-then-sweep-ge-KEYS : goal.returns-then-sweep-ge-KEYS
returns-then-sweep-ge-KEYS c =
    let l = c.loop-turn in
    swept_full _ _ _ _ 4095 l._turn (l.invariant ∙ swept_first _ _ _ c.put.ensures) (omega arith) c.if-sweep-ge-KEYS.true

pub returns : goal.returns
returns c =
    let l = c.loop-turn in swept_out _ _ _ _ 4095 l._turn (l.invariant ∙ swept_first _ _ _ c.put.ensures) (omega arith)
