-- What is left to move, moved, gives the whole.
use mathlib.Core.Path.{◌≡◌}
use Prim.Native.Nat.{◌-◌}
use Rattle.model.specs.Model.{moved_up}
use Rattle.model.proofs.make_room.Given as goal

abbrev pub invariant-loop-i : goal.invariant-loop-i
invariant-loop-i l = moved_up l.list l.at (l.i - l.at) ≡ moved_up l.initial.list l.at (l.initial.i - l.at)
