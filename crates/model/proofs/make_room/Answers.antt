use mathlib.Core.Path.{refl}
use native.Mathlib.Omega.{arith}
use Rattle.model.proofs.Laws.{up_more, up_done}
use Rattle.model.proofs.make_room.Goals as goal

pub loop-i-init : goal.loop-i-init
loop-i-init c = refl

pub loop-i-preserved : goal.loop-i-preserved
loop-i-preserved c =
    let l = c.loop-i in
    up_more _ _ _ _ l.i l.invariant (omega arith) c.record_at-record.ensures c.put_record.ensures

pub returns : goal.returns
returns c = let l = c.loop-i in up_done _ _ _ _ l.i l.invariant (omega arith) c.size-i.ensures
