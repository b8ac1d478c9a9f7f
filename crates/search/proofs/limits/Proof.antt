-- By its definition.
use mathlib.Core.Path.{refl}
use Rattle.search.specs.Descent.{limited}
use Rattle.search.proofs.limits.Statement.{statement}
use Rattle.search.proofs.limits.Tie as tie

returns : tie.Need-returns
unfolding limited
returns c = refl

pub limits_spec : {M : Type 1} → statement M
limits_spec = tie.close (tie.spec returns)
