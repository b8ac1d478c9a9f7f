-- What is said of the stretches from place i on is said of all from the first.
use mathlib.Core.Path.{◌≡◌}
use Prim.Native.Nat.{◌-◌}
use Rattle.stretches.specs.Stretches.{deep_from, deep_at}
use Rattle.stretches.proofs.deep.Given as goal

abbrev pub invariant-loop-i : goal.invariant-loop-i
invariant-loop-i l = deep_from l.below l.end l.most l.i (l.i-end - l.i) ≡ deep_at l.below l.fn.most l.from l.start l.depth
