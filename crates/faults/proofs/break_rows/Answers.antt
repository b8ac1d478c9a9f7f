-- The rows from row i on, tried after those so far, are all rows of the table.
use native.Mathlib.Omega.{arith}
use Prim.Native.Nat.{◌-◌}
use Rattle.faults.proofs.Laws.{rows_first, rows_turn, rows_out}
use Rattle.faults.proofs.break_rows.Goals as goal

pub loop-i-init : goal.loop-i-init
loop-i-init g c = rows_first _ _ _

pub loop-i-preserved : goal.loop-i-preserved
loop-i-preserved g c =
    let l = c.loop-i in
    rows_turn _ _ _ _ l.i l.invariant (omega arith) c.break_row.ensures

pub returns : goal.returns
returns g c = let l = c.loop-i in rows_out _ _ _ _ l.i l.invariant (omega arith)
