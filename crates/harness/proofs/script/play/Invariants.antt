use mathlib.Core.Path.{◌≡◌}
use Prim.Native.Nat.{◌-◌}
use lib.ListN.{length}
use Rattle.harness.specs.Script.{both, played}
use Rattle.harness.proofs.script.play.Given as goal

abbrev pub invariant-loop-i : goal.invariant-loop-i
invariant-loop-i g l =
    played l.rows (both l.store l.tally) l.i (length l.rows - l.i)
    ≡ played l.rows (both l.initial.store l.initial.tally) 0 (length l.rows)
