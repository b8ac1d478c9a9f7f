-- The lowest row is made, and the levels above it are counted.
use borrow.Author.Rules.{rules}
use mathlib.Core.Path.{refl}
use Rattle.stretches.proofs.Laws.{counts_are}
use Rattle.stretches.proofs.counts_of.Statement.{statement}
use Rattle.stretches.proofs.counts_of.Tie as tie

returns : tie.Need-returns
returns c =
    let k = c.before.before in
    let s = k.before.before.before.before in
    counts_are _ _ _ refl s.sweep_over-pages.ensures k.climb.ensures.0

pub counts_of_spec : {M : Type 1} → statement M
counts_of_spec =
    tie.close
    (tie.spec (λ c. search rules) (λ c κs. search rules) (λ c. search rules) (λ c. search rules) (λ c κs. search rules) returns)
