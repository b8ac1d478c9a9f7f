-- The nodes before it, cut to 32 bits.
use borrow.Author.Rules.{rules}
use mathlib.Core.Path.{ap, ◌∙◌}
use Prim.Native.Nat.{◌+◌}
use Rattle.raw.proofs.Laws.{words_cut}
use Rattle.raw.specs.Blocks.{node_size, node_block}
use Rattle.raw.proofs.blocks.node_at.Statement.{statement}
use Rattle.raw.proofs.blocks.node_at.Tie as tie

returns : tie.Need-returns
unfolding node_block
returns c =
    let p = c.before in
    let k = p.node_words.ensures ∙ ap node_size p.word.ensures in
    (ap (λ x. 16 + x) (words_cut c.words_of.ensures.0 p.saturating_sub.ensures k), search rules)

pub node_at_spec : {M : Type 1} → statement M
node_at_spec =
    tie.close
    (tie.spec (λ c κs. search rules) (λ c κs. search rules) (λ c κs. search rules) (λ c κs. search rules)
    (λ c. search rules) returns)
