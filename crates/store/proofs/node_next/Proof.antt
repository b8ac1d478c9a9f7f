use borrow.Author.Rules.{rules}
use Rattle.store.proofs.ChainLaws.{node_next_is}
use Rattle.store.proofs.node_next.Statement.{statement}
use Rattle.store.proofs.node_next.Tie as tie

returns : tie.Need-returns
returns c =
    let q = c.before.before.before in
    node_next_is _ _ _ _ _ q.requires.1 c.node_start.ensures.0 c.word.ensures

pub node_next_spec : {M : Type 1} → statement M
node_next_spec = tie.close (tie.spec (λ c κs. search rules) (λ c. search rules) (λ c κs. search rules) returns)
