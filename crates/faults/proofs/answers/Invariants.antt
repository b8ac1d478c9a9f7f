use mathlib.Core.Path.{◌≡◌}
use Prim.Native.Nat.{◌-◌}
use Rattle.harness.specs.Script.{both}
use Rattle.faults.specs.Faults.{answers_from}
use Rattle.faults.proofs.answers.Given as goal

abbrev pub invariant-loop-j : goal.invariant-loop-j
invariant-loop-j g l =
    answers_from l.rows l.i (both l.store l.tally) l.j (5 - l.j)
    ≡ answers_from l.rows l.i (both l.initial.store l.initial.tally) 0 5
