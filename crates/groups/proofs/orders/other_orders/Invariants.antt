use mathlib.Core.Path.{◌≡◌}
use Prim.Native.Nat.{◌-◌}
use Rattle.harness.specs.Script.{both}
use Rattle.groups.specs.Orders.{ordered_from}
use Rattle.groups.proofs.orders.other_orders.Given as goal

abbrev pub invariant-loop-order : goal.invariant-loop-order
invariant-loop-order g l =
    ordered_from l.first l.list l.drawn l.setting (both l.store l.tally) l.order (4 - l.order)
    ≡ ordered_from l.first l.list l.drawn l.setting (both l.initial.store l.initial.tally) 1 3
