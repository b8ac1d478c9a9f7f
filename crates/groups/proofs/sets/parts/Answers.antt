-- The parts from low on, made after those so far, are all the parts.
use native.Mathlib.Omega.{arith}
use Prim.Native.Nat.{◌-◌}
use Rattle.groups.proofs.SetLaws.{parts_first, parts_end, parts_more, parts_out}
use Rattle.groups.proofs.sets.parts.Goals as goal

pub loop-turn-init : goal.loop-turn-init
loop-turn-init g c = parts_first _ _ _

pub returns-then-low-eq0 : goal.returns-then-low-eq0
returns-then-low-eq0 g c =
    let l = c.loop-turn in
    parts_end _ _ _ _ _ 1024 l._turn l.invariant (omega arith) c.ask.ensures c.part-low.ensures c.if-low-eq0.true

pub loop-turn-preserved : goal.loop-turn-preserved
loop-turn-preserved g c =
    let l = c.loop-turn in
    parts_more _ _ _ _ _ 1024 l._turn l.invariant (omega arith) c.ask.ensures c.part-low.ensures c.if-low-eq0.false

pub returns : goal.returns
returns g c =
    let l = c.loop-turn in
    parts_out _ _ _ _ _ 1024 l._turn l.invariant (omega arith) c.hold.ensures
