use native.Mathlib.Omega.{arith}
use Rattle.stretches.proofs.Laws.{climbed_first, climbed_single, climbed_more, climbed_out}
use Rattle.stretches.proofs.climb.Goals as goal

pub loop-level-init : goal.loop-level-init
loop-level-init c = climbed_first _ _

pub loop-level-preserved : goal.loop-level-preserved
loop-level-preserved c =
    let l = c.loop-level in
    climbed_more _ _ _ _ 33 l._level l.invariant (omega arith) c.sweep_over.ensures.1 c.word-n.ensures c.taller-counts.ensures
    c.if-n-eq1.false c.to_index.ensures.0 c.copy.ensures

pub returns-then-n-eq1 : goal.returns-then-n-eq1
returns-then-n-eq1 c =
    let l = c.loop-level in
    climbed_single _ _ _ _ 33 l._level l.invariant (omega arith) c.sweep_over.ensures.1 c.word-n.ensures c.taller-counts.ensures
    c.if-n-eq1.true

pub returns : goal.returns
returns c = let l = c.loop-level in climbed_out _ _ _ _ 33 l._level l.invariant (omega arith)
