-- Word by word.
use borrow.Author.Rules.{rules}
use mathlib.Core.Path.{refl}
use Rattle.store.specs.Head.{released_of}
use Rattle.store.proofs.released_of.Statement.{statement}
use Rattle.store.proofs.released_of.Tie as tie

returns : tie.Need-returns
unfolding released_of
returns c = refl

pub released_of_spec : {M : Type 1} → statement M
released_of_spec = tie.close (tie.spec (λ c. search rules) (λ c. search rules) (λ c. search rules) (λ c. search rules) returns)
