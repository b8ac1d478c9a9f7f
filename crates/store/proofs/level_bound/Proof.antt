-- The quotient is L's.
use borrow.Author.Rules.{rules}
use Rattle.store.proofs.HeadLaws.{level_bound_is}
use Rattle.store.proofs.level_bound.Statement.{statement}
use Rattle.store.proofs.level_bound.Tie as tie

returns : tie.Need-returns
returns c = level_bound_is _ _ _ _ _ c.width_of.ensures.0 c.floor_log2.ensures.0

pub level_bound_spec : {M : Type 1} → statement M
level_bound_spec =
    tie.close
    (tie.spec (λ c κs. search rules) (λ c κs. search rules) (λ c. search rules) (λ c. search rules) (λ c. search rules) (λ c. search rules)
    returns)
