-- The smaller of the days up to and with the last day and the lease days.
use native.Mathlib.Omega.{arith}
use Rattle.plot.specs.Money.{days_left}
use Rattle.plot.proofs.days_left.Goals as goal

pub returns-then-last-today : goal.returns-then-last-today
unfolding days_left
returns-then-last-today c = omega arith

pub returns : goal.returns
unfolding days_left
returns c = omega (arith, c.min.ensures)
