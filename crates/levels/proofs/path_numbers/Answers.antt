-- The levels passed have their numbers.
use native.Mathlib.Omega.{arith}
use Rattle.levels.proofs.PathFacts.{numbers_turn}
use Rattle.levels.proofs.path_numbers.Goals as goal

pub loop-i-init : goal.loop-i-init
loop-i-init c j e = absurd (omega arith)

pub loop-i-preserved : goal.loop-i-preserved
loop-i-preserved c =
    let l = c.loop-i in
    numbers_turn _ l.i l.numbers (omega (arith, c.loop-i-test.true, c.requires, l.auto.numbers)) l.invariant

pub returns : goal.returns
returns c j e = c.loop-i.invariant j (omega (arith, e, c.loop-i-test.false))
