-- What is left of the test, from the block reached on, is the whole test.
use Rattle.std.proofs.Common.{◌≡◌, sym, ◌∙◌}
use borrow.Author.Rules.{rules}
use native.Mathlib.Omega.{arith}
use Rattle.store.proofs.HeadLaws.{head_whole}
use Rattle.store.proofs.Places.{under_limits, under_chains}
use Rattle.store.proofs.ChainLaws.{after_none, after_more, nodes_start, chain_out, chain_end, chain_more, chain_broken, link_named, named_start}
use Rattle.store.proofs.nodes_ok.Goals as goal

pub released_of-r-requires : goal.released_of-r-requires
released_of-r-requires c = head_whole _ _ c.requires.rule

pub loop-i-init : goal.loop-i-init
loop-i-init c =
    let p = c.requires in (
      search rules,
      after_none _ _,
      named_start _ _ _ (under_chains p c.released_of-r.ensures).node,
      nodes_start _ _ _ _ p.head c.released_of-r.ensures,
    )

pub returns-then-i-r : goal.returns-then-i-r
returns-then-i-r c = let l = c.loop-i in sym (chain_end _ _ _ _ _ _ _ (search rules)) ∙ l.invariant.3

pub link_ok-requires : goal.link_ok-requires
link_ok-requires c =
    let n = c.loop-i.invariant.2 in
    (c.requires, record { positive = n.some (search rules); within = n.within })

pub returns-then-not-link_ok : goal.returns-then-not-link_ok
returns-then-not-link_ok c =
    let l = c.loop-i in
    sym (sym l.invariant.3 ∙ chain_broken _ _ _ _ _ _ l.i l.name (search rules) (search rules) (sym c.link_ok.ensures ∙ c.if-not-link_ok.true))

pub node_next-name-requires : goal.node_next-name-requires
node_next-name-requires c = let p = c.requires in ((under_limits p).theta, p.head)

pub loop-i-preserved : goal.loop-i-preserved
loop-i-preserved c =
    let l = c.loop-i in
    let t = sym c.link_ok.ensures ∙ c.if-not-link_ok.false in
    let x = c.node_next-name.ensures in (
      search rules,
      after_more _ _ l.i l.name _ l.invariant.1 x,
      link_named _ _ _ l.name _ _ _ l.i x t,
      sym (chain_more _ _ _ _ _ _ l.i l.name _ (search rules) (search rules) l.invariant.1 x t) ∙ l.invariant.3,
    )

pub returns : goal.returns
returns c = let l = c.loop-i in sym (chain_out _ _ _ _ _ _ _ (search rules)) ∙ l.invariant.3
