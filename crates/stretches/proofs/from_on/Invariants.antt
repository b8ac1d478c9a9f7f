-- The elements from place i on, passed as all from the first are.
use mathlib.Core.Path.{◌≡◌}
use Prim.Native.Nat.{◌-◌, ◌≤◌, max}
use Rattle.stretches.specs.Stretches.{first_from, from_on}
use Rattle.stretches.proofs.from_on.Given as goal

abbrev pub invariant-loop-i : goal.invariant-loop-i
invariant-loop-i l = (l.i ≤ max l.from l.n) × (first_from l.row l.words l.key l.i (l.n - l.i) ≡ from_on l.row l.words l.from l.key)
