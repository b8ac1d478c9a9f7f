-- Above level 1 the entries point to nodes.
use borrow.Author.Rules.{rules}
use Rattle.raw.proofs.TwinLaws.{below_nodes, below_pages}
use Rattle.raw.proofs.twins.pair_below.Statement.{statement}
use Rattle.raw.proofs.twins.pair_below.Tie as tie

returns : tie.Need-returns-then-node_word-gt1
returns c =
    let p = c.before.before.before.before in
    let t = p.before.before.before in
    below_nodes _ _ _ _ _ t.node_word.ensures t.if-node_word-gt1.true p.pair_children.ensures

returns_2 : tie.Need-returns-else-node_word-gt1
returns_2 c = below_pages _ _ _ _ _ c.node_word.ensures c.if-node_word-gt1.false

pub pair_below_spec : {M : Type 1} → statement M
pair_below_spec =
    tie.close
    (tie.spec (λ c κs. search rules) (λ c κs. search rules) (λ c. search rules) (λ c. search rules) returns returns_2)
