-- The rows from row i on, played after those so far, are all rows.
use native.Mathlib.Omega.{arith}
use Rattle.harness.proofs.ScriptLaws.{played_first, played_turn, played_out}
use Rattle.harness.proofs.script.play.Goals as goal

pub loop-i-init : goal.loop-i-init
loop-i-init g c = played_first _ _

pub loop-i-preserved : goal.loop-i-preserved
loop-i-preserved g c =
    let l = c.loop-i in
    played_turn _ _ _ l.i (omega arith) l.invariant c.play_row.ensures

pub returns : goal.returns
returns g c = let l = c.loop-i in played_out _ l.i l.invariant (omega arith)
