-- Each format's own number.
use mathlib.Core.Path.{◌≡◌, refl}
use native.Mathlib.Omega.{arith}
use Rattle.store.specs.Format.{words}
use Rattle.store.specs.declared.Format.{Format}
use Rattle.store.specs.declared.Format.TheVariants.{Plots}
use Rattle.store.proofs.words_of.Statement.{statement}
use Rattle.store.proofs.words_of.Tie as tie

plots : (f : Format) → 4 ≡ words f
unfolding words
plots Plots = refl

returns : tie.Need-returns
returns c = (plots c.args.f, omega arith, omega arith)

pub words_of_spec : {M : Type 1} → statement M
words_of_spec = tie.close (tie.spec returns)
