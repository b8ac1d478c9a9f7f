use mathlib.Core.Path.{◌≡◌}
use Prim.Native.Nat.{◌-◌}
use Rattle.store.specs.Head.{word}
use Rattle.harness.specs.Script.{both}
use Rattle.groups.specs.Orders.{entered_from}
use Rattle.groups.proofs.orders.enter_all.Given as goal

abbrev pub invariant-loop-i : goal.invariant-loop-i
invariant-loop-i g l =
    entered_from l.list l.drawn l.order (both l.store l.tally) l.i (l.i-end - l.i)
    ≡ entered_from l.list l.drawn l.order (both l.initial.store l.initial.tally) 0 (word l.list 0)
