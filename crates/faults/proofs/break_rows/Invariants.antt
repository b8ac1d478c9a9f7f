use mathlib.Core.Path.{◌≡◌}
use Prim.Native.Nat.{◌-◌}
use lib.ListN.{length}
use Rattle.harness.specs.Script.{both}
use Rattle.faults.specs.Faults.{broken_from}
use Rattle.faults.proofs.break_rows.Given as goal

abbrev pub invariant-loop-i : goal.invariant-loop-i
invariant-loop-i g l =
    broken_from l.sound l.rows (both l.store l.tally) l.i (length l.rows - l.i)
    ≡ broken_from l.sound l.rows (both l.initial.store l.initial.tally) 0 (length l.rows)
