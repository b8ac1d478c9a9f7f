-- Word by word.
use borrow.Author.Rules.{rules}
use mathlib.Core.Path.{refl}
use Rattle.store.specs.Head.{head_of}
use Rattle.store.proofs.head_of.Statement.{statement}
use Rattle.store.proofs.head_of.Tie as tie

returns : tie.Need-returns
unfolding head_of
returns c = refl

pub head_of_spec : {M : Type 1} → statement M
head_of_spec =
    tie.close
    (tie.spec (λ c. search rules) (λ c. search rules) (λ c. search rules) (λ c. search rules) (λ c. search rules) (λ c. search rules)
    (λ c. search rules) (λ c. search rules) returns)
