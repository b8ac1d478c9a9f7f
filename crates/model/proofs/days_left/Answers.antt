-- The smaller of the days up to and with the last day and the lease days.
use native.Mathlib.Omega.{arith}
use Rattle.plot.specs.Money.{days_left}
use Rattle.model.proofs.days_left.Goals as goal

pub returns-then-plot-today : goal.returns-then-plot-today
unfolding days_left
returns-then-plot-today c = omega arith

pub returns : goal.returns
unfolding days_left
returns c = omega arith
