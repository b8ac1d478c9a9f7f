-- Test by test.
use borrow.Author.Rules.{rules}
use mathlib.Core.Path.{◌≡◌, refl, sym, ◌∙◌}
use mathlib.Core.Bool.{true, false}
use native.Mathlib.Omega.{arith}
use Rattle.lists.proofs.Tests.{passed, failed}
use Rattle.node.specs.Node.{node_rule}
use Rattle.search.proofs.NextLaws.{linked_rule}
use Rattle.search.proofs.BlockLaws.{block_words, limits_rule, block_tested}
use Rattle.search.proofs.ReachLaws.{linked_is}
use Rattle.search.proofs.is_linked.Statement.{statement}
use Rattle.search.proofs.is_linked.Tie as tie

node_passes_requires : tie.Need-node_passes-requires
node_passes_requires c κs =
    let p = c.requires in
    block_tested p.0 p.1 c.node_at-node.ensures 1 _ (λ q. linked_rule _ _ _ _ (p.2 q))

-- the block, and what its test said of the rule
abbrev block : tie.After-node_passes → tie.After-node_at-node
block c = c.before

tested : (c : tie.After-node_passes)
    → c.node_passes.result ≡ node_rule (block c).args.head (block c).node_at-node.result.now 0 1
tested c =
    let p = (block c).requires in
    c.node_passes.ensures ∙ limits_rule p.0 p.1 (block c).node_at-node.ensures 1

returns : tie.Need-returns-then-not-node_passes
returns c =
    let a = block c.before in
    let p = a.requires in
    linked_is p.0 p.1 a.node_at-node.ensures _ false _ (sym (failed (tested c.before) c.if-not-node_passes.true-raw)) refl

shared_slice_read_result : tie.Need-bounds-node-2
shared_slice_read_result c =
    let a = block c.before.before in
    let p = a.requires in
    omega (arith, block_words p.0 p.1 a.node_at-node.ensures)

returns_2 : tie.Need-returns
returns_2 c =
    let a = block c.before.before in
    let p = a.requires in
    linked_is p.0 p.1 a.node_at-node.ensures _ true _ (sym (passed (tested c.before.before) c.if-not-node_passes.false-raw)) refl

pub is_linked_spec : {M : Type 1} → statement M
is_linked_spec =
    tie.close
    (tie.spec (λ c κs. search rules) node_passes_requires returns shared_slice_read_result returns_2)
