-- The stretches still to come, taken after those so far, are all stretches.
use mathlib.Core.Path.{◌≡◌}
use Prim.Native.Nat.{◌-◌}
use Rattle.stretches.specs.Stretches.{swept_from}
use Rattle.stretches.proofs.sweep_over.Given as goal

abbrev pub invariant-loop-turn : goal.invariant-loop-turn
invariant-loop-turn l =
    swept_from l.below l.rule (record { sweep = l.sweep; row = l.above }) (4095 - l._turn)
    ≡ swept_from l.below l.rule (record { sweep = l.initial.sweep; row = l.initial.above }) (4095 - 0)
