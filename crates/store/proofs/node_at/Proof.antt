-- A block in use lies in the store.
use borrow.Author.Rules.{rules}
use native.Mathlib.Omega.{arith}
use Rattle.store.proofs.Places.{under_limits, node_inside, node_given}
use Rattle.store.proofs.node_at.Statement.{statement}
use Rattle.store.proofs.node_at.Tie as tie

node_start_requires : tie.Need-node_start-start-requires
node_start_requires c κs = (under_limits c.requires.0).theta

node_words_requires : tie.Need-node_words-requires
node_words_requires c κs = (under_limits c.requires.0).theta

part_result_end : tie.Need-slice_bounds-result-end
part_result_end c =
    let p = c.requires in
    let i = node_inside p.0 p.1 in
    omega (arith, i, c.node_start-start.ensures.0, c.node_words.ensures.0)

returns : tie.Need-returns
returns c =
    let q = c.before.before in
    let p = q.requires in
    node_given p.0 p.1 q.node_start-start.ensures.0 c.node_words.ensures.0

pub node_at_spec : {M : Type 1} → statement M
node_at_spec =
    tie.close
    (tie.spec node_start_requires node_words_requires (λ c. search rules) (λ c. search rules) (λ c. search rules) (λ c. search rules)
    part_result_end returns)
