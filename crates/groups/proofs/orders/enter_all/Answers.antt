-- The entries from place i on, made after those so far, are all entries of the order.
use native.Mathlib.Omega.{arith}
use Prim.Native.Nat.{◌-◌}
use Rattle.groups.proofs.OrderLaws.{entered_first, entered_turn, entered_out}
use Rattle.groups.proofs.orders.enter_all.Goals as goal

pub loop-i-init : goal.loop-i-init
loop-i-init g c = entered_first _ _ _ _ c.size-i-end.ensures

pub loop-i-preserved : goal.loop-i-preserved
loop-i-preserved g c =
    let l = c.loop-i in
    entered_turn _ _ _ _ _ l.i _ l.invariant (omega arith) c.record_in.ensures c.enter.ensures

pub returns : goal.returns
returns g c = let l = c.loop-i in entered_out _ _ _ _ _ l.i _ l.invariant (omega arith)
