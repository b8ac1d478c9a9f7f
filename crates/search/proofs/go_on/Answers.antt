-- Test by test, from the node's forward link.
use mathlib.Core.Path.{sym, ap, ◌∙◌}
use native.Mathlib.Omega.{arith}
use Rattle.search.specs.Way.{hop_result}
use Rattle.search.proofs.NextLaws.{onward_none, onward_spent, onward_broken, onward_goes, onward_linked}
use Rattle.search.proofs.BlockLaws.{block_words}
use Rattle.search.proofs.ReachLaws.{forward_is, forward_taken}
use Rattle.search.proofs.go_on.Goals as goal

pub node_at-node-requires : goal.node_at-node-requires
node_at-node-requires c = (c.requires.0, c.requires.1.in_use)

pub bounds-node-3 : goal.bounds-node-3
bounds-node-3 c = let p = c.requires in omega (arith, block_words p.0 p.1.in_use c.node_at-node.ensures)

pub returns-then-m-eq0 : goal.returns-then-m-eq0
returns-then-m-eq0 c =
    let p = c.requires in
    ap hop_result (onward_none _ _ _ _ (forward_is p.0 p.1 c.node_at-node.ensures) c.if-m-eq0.true)

pub returns-then-left-eq0 : goal.returns-then-left-eq0
returns-then-left-eq0 c =
    let p = c.requires in
    ap hop_result (onward_spent _ _ _ _ (forward_is p.0 p.1 c.node_at-node.ensures) c.if-m-eq0.false c.if-left-eq0.true)

pub is_linked-requires : goal.is_linked-requires
is_linked-requires c =
    let p = c.requires in (
      p.0,
      forward_taken p.0 p.1 c.node_at-node.ensures c.if-m-eq0.false,
      λ q. onward_linked _ _ _ _ (forward_is p.0 p.1 c.node_at-node.ensures) c.if-m-eq0.false c.if-left-eq0.false (p.2 q),
    )

pub returns-then-not-is_linked : goal.returns-then-not-is_linked
returns-then-not-is_linked c =
    let p = c.requires in
    ap hop_result
    (onward_broken _ _ _ _ (forward_is p.0 p.1 c.node_at-node.ensures) c.if-m-eq0.false c.if-left-eq0.false
    (sym c.is_linked.ensures ∙ c.if-not-is_linked.true))

pub returns : goal.returns
returns c =
    let p = c.requires in
    ap hop_result
    (onward_goes _ _ _ _ (forward_is p.0 p.1 c.node_at-node.ensures) c.if-m-eq0.false c.if-left-eq0.false
    (sym c.is_linked.ensures ∙ c.if-not-is_linked.false))
