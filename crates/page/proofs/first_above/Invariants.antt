-- The first key that is above stands in the records that are open, or just behind them.
use Rattle.page.proofs.Halving.{Halving}
use Rattle.page.proofs.first_above.Given as goal

abbrev pub invariant-loop-left : goal.invariant-loop-left
invariant-loop-left l = Halving l.f l.page l.strict l.key l.from l.left

abbrev pub decreases-loop-left : goal.decreases-loop-left
decreases-loop-left l = l.left
