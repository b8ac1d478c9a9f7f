-- All nodes and the pages before it, each cut to 32 bits.
use borrow.Author.Rules.{rules}
use mathlib.Core.Path.{ap, ap₂, ◌∙◌}
use Prim.Native.Nat.{◌+◌}
use Rattle.raw.proofs.Laws.{words_cut}
use Rattle.raw.specs.Blocks.{node_size, page_block}
use Rattle.raw.proofs.blocks.page_at.Statement.{statement}
use Rattle.raw.proofs.blocks.page_at.Tie as tie

returns : tie.Need-returns
unfolding page_block
returns c =
    let p = c.before in
    let q = p.before.before in
    let w = q.before.before in
    let k = q.node_words.ensures ∙ ap node_size w.word-2.ensures in
    let nodes = words_cut q.words_of-nodes.ensures.0 w.word.ensures k in
    let pages = words_cut c.words_of.ensures.0 p.saturating_sub.ensures p.page_words.ensures.0 in
    (ap₂ (λ x y. 16 + x + y) nodes pages, search rules)

pub page_at_spec : {M : Type 1} → statement M
page_at_spec =
    tie.close
    (tie.spec (λ c κs. search rules) (λ c κs. search rules) (λ c κs. search rules) (λ c κs. search rules)
    (λ c. search rules) (λ c κs. search rules) (λ c κs. search rules) (λ c κs. search rules) (λ c. search rules)
    returns)
