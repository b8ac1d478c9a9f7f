-- A test that fails breaks the rule; where four hold, the rule is the last.
use Rattle.std.proofs.Common.{◌+◌, ◌*◌, ◌≤◌, true, length, sym, refl, ◌∙◌, arith, rules, eq-eqb, le-leb}
use mathlib.Core.Bool.{false≢true}
use Rattle.lists.proofs.Tests.{untrue}
use Rattle.node.proofs.NodeLaws.{low_most, high_most, back_most, block_holds, block_rest, node_rule_is, node_facts}
use Rattle.node.proofs.node_ok.Goals as goal

pub returns-then-depth-head : goal.returns-then-depth-head
returns-then-depth-head c = untrue (λ e. omega (arith, c.if-depth-head.true, (node_facts _ _ _ _ e).depth))

pub returns-then-node-level : goal.returns-then-node-level
returns-then-node-level c = untrue (λ e. c.if-node-level.true (node_facts _ _ _ _ e).level_is)

pub returns-then-not-links_ok : goal.returns-then-not-links_ok
returns-then-not-links_ok c =
    untrue (λ e. false≢true (sym (sym c.links_ok.ensures ∙ c.if-not-links_ok.true) ∙ (node_facts _ _ _ _ e).links))

pub runs_ok-requires : goal.runs_ok-requires
runs_ok-requires c =
    let p = c.requires in
    let back = back_most _ _ _ _ (sym c.links_ok.ensures ∙ c.if-not-links_ok.false) in (
      omega (arith, p.0, c.if-depth-head.false),
      rw c.pointer_low.ensures (low_most _),
      rw c.pointer_high.ensures (high_most _ _ 4096 p.1 p.2),
      block_holds _ p.3 c.if-depth-head.false,
      omega (arith, back, p.1),
    )

pub returns-then-not-runs_ok : goal.returns-then-not-runs_ok
returns-then-not-runs_ok c =
    let r = rw (c.pointer_low.ensures, c.pointer_high.ensures) at c.runs_ok.ensures in
    untrue (λ e. false≢true (sym (sym r ∙ c.if-not-runs_ok.true) ∙ (node_facts _ _ _ _ e).runs))

pub slice_bounds-is_zero-count : goal.slice_bounds-is_zero-count
slice_bounds-is_zero-count c = rw c.pow2.ensures.0 (block_holds _ c.requires.3 c.if-depth-head.false)

pub slice_bounds-is_zero-start : goal.slice_bounds-is_zero-start
slice_bounds-is_zero-start c =
    let r : 4 + 2 * c.pow2.result ≤ length c.args.node.now = rw c.pow2.ensures.0 (block_holds _ c.requires.3 c.if-depth-head.false) in search rules

pub returns : goal.returns
returns c =
    let p = c.requires in
    let r = rw (c.pointer_low.ensures, c.pointer_high.ensures) at c.runs_ok.ensures in
    node_rule_is _ _ _ _ _ true true true true _ refl (sym (le-leb _ _ c.if-depth-head.false)) (sym (eq-eqb _ _ c.if-node-level.false))
    (sym (sym c.links_ok.ensures ∙ c.if-not-links_ok.false)) (sym (sym r ∙ c.if-not-runs_ok.false))
    (block_rest _ _ p.3 c.if-depth-head.false c.pow2.ensures.0 c.is_zero.ensures)
