use mathlib.Core.Path.{refl}
use native.Mathlib.Omega.{arith}
use Rattle.model.proofs.Laws.{sheet_more, sheet_done}
use Rattle.model.proofs.sheet_over.Goals as goal

pub loop-i-preserved : goal.loop-i-preserved
loop-i-preserved c =
    let l = c.loop-i in
    sheet_more _ _ _ _ l.i _ l.invariant (omega arith) c.record_at.ensures c.added-sheet.ensures

pub returns : goal.returns
returns c =
    let l = c.loop-i in
    sheet_done _ _ _ _ l.i _ l.invariant _ _ (omega arith) refl c.rank_after-end.ensures
