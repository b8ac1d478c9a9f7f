-- `plot::lawful_day` meets its contract: its test is the definition's.
use mathlib.Core.Path.{refl}
use Rattle.plot.specs.Plot.{lawful_day}
use Rattle.plot.proofs.lawful_day.Statement.{statement}
use Rattle.plot.proofs.lawful_day.Tie as tie

returns : tie.Need-returns
unfolding lawful_day
returns c = refl

pub lawful_day_spec : {M : Type 1} → statement M
lawful_day_spec = tie.close (tie.spec returns)
