-- The orders from one on, entered after those so far, are the three beside the first.
use native.Mathlib.Omega.{arith}
use mathlib.Core.Path.{refl}
use Prim.Native.Nat.{◌-◌}
use Rattle.groups.proofs.OrderLaws.{ordered_turn, ordered_out}
use Rattle.groups.proofs.orders.other_orders.Goals as goal

pub loop-order-init : goal.loop-order-init
loop-order-init g c = refl

pub loop-order-preserved : goal.loop-order-preserved
loop-order-preserved g c =
    let l = c.loop-order in
    ordered_turn _ _ _ _ _ _ l.order l.invariant (omega arith) c.from.ensures c.fill_store.ensures c.compare.ensures

pub returns : goal.returns
returns g c = let l = c.loop-order in ordered_out _ _ _ _ _ _ l.order l.invariant (omega arith)
