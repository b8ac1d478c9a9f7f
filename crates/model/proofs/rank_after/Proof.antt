-- The largest key apart.
use borrow.Author.Rules.{rules}
use Rattle.model.proofs.Laws.{after_all_lem, after_rank}
use Rattle.model.proofs.rank_after.Statement.{statement}
use Rattle.model.proofs.rank_after.Tie as tie

returns : tie.Need-returns-then-key-eq4294967295
returns c = after_all_lem _ _ c.if-key-eq4294967295.true c.size.ensures

returns_2 : tie.Need-returns
returns_2 c = after_rank _ _ c.if-key-eq4294967295.false c.rank.ensures

pub rank_after_spec : {M : Type 1} → statement M
rank_after_spec =
    tie.close
    (tie.spec (λ c κs. search rules) returns (λ c. search rules) (λ c κs. search rules) returns_2)
