-- The calls from call j on, made after those so far, are the five calls of the row.
use native.Mathlib.Omega.{arith}
use mathlib.Core.Path.{refl}
use Prim.Native.Nat.{◌-◌}
use Rattle.faults.proofs.Laws.{answers_turn, answers_out}
use Rattle.faults.proofs.answers.Goals as goal

pub loop-j-init : goal.loop-j-init
loop-j-init g c = refl

pub loop-j-preserved : goal.loop-j-preserved
loop-j-preserved g c =
    answers_turn _ _ _ _ c.loop-j.j c.loop-j.invariant (omega arith) c.cell-key.ensures c.call_at.ensures
    c.cell.ensures c.answer.ensures

pub returns : goal.returns
returns g c = let l = c.loop-j in answers_out _ _ _ _ l.j l.invariant (omega arith)
