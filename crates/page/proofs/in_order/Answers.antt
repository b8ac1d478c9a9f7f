-- Before the first record nothing is out of order.
use mathlib.Core.Path.{refl}
use Rattle.page.proofs.Order.{starts}
use Rattle.page.proofs.in_order.Goals as goal

pub loop-i-init : goal.loop-i-init
loop-i-init c = (refl, refl, starts _ _)
