-- What is left to move, moved, gives the whole.
use mathlib.Core.Path.{◌≡◌}
use Prim.Native.Nat.{◌-◌}
use Rattle.model.specs.Model.{moved_down}
use Rattle.model.proofs.close_up.Given as goal

abbrev pub invariant-loop-i : goal.invariant-loop-i
invariant-loop-i l = moved_down l.list l.i (l.i-end - l.i) ≡ moved_down l.initial.list l.at (l.i-end - l.at)
