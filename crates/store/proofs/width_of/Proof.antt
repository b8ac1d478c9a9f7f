-- Each format's own number.
use mathlib.Core.Path.{◌≡◌, refl}
use native.Mathlib.Omega.{arith}
use Rattle.store.specs.Format.{width}
use Rattle.store.specs.declared.Format.{Format}
use Rattle.store.specs.declared.Format.TheVariants.{Plots}
use Rattle.store.proofs.width_of.Statement.{statement}
use Rattle.store.proofs.width_of.Tie as tie

plots : (f : Format) → 32 ≡ width f
unfolding width
plots Plots = refl

returns : tie.Need-returns
returns c = (plots c.args.f, omega arith, omega arith)

pub width_of_spec : {M : Type 1} → statement M
width_of_spec = tie.close (tie.spec returns)
