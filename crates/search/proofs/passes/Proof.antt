-- A node that is not checked is sound. Else its block is tested, then the bits.
use borrow.Author.Rules.{rules}
use mathlib.Core.Path.{◌≡◌, sym, ◌∙◌}
use mathlib.Core.Bool.{true, true≢false}
use native.Mathlib.Omega.{arith}
use borrow.Author.Tests.{not-true}
use Rattle.lists.proofs.Tests.{passed, failed}
use Rattle.store.proofs.HeadLaws.{width_within}
use Rattle.node.specs.Node.{node_rule}
use Rattle.node.proofs.NodeLaws.{node_facts}
use Rattle.search.proofs.BlockLaws.{under_node, block_words, limits_rule, block_tested, block_broken, block_sound}
use Rattle.search.proofs.passes.Statement.{statement}
use Rattle.search.proofs.passes.Tie as tie

returns : tie.Need-returns-then-not-checked
returns c = sym (c.requires.3 (not-true _ c.if-not-checked.true-raw))

node_at_requires : tie.Need-node_at-node-requires
node_at_requires c κs = let p = c.requires in (p.0, p.1)

node_passes_requires : tie.Need-node_passes-requires
node_passes_requires c κs =
    let p = c.requires in
    block_tested p.0 p.1 c.node_at-node.ensures _ _ (λ z. absurd (true≢false z))

-- the block, and what its test said of the rule
abbrev block : tie.After-node_passes → tie.After-node_at-node
block c = c.before

tested : (c : tie.After-node_passes)
    → let a = (block c).args in
    c.node_passes.result ≡ node_rule a.head (block c).node_at-node.result.now 0 a.level
tested c =
    let p = (block c).requires in
    c.node_passes.ensures ∙ limits_rule p.0 p.1 (block c).node_at-node.ensures _

returns_2 : tie.Need-returns-then-not-node_passes
returns_2 c =
    let a = block c.before in
    let p = a.requires in
    block_broken p.0 p.1 a.node_at-node.ensures _ _ (failed (tested c.before) c.if-not-node_passes.true-raw)

-- the block keeps the rule
ruled : (c : tie.Else-not-node_passes)
    → let a = (block c.before).args in
    node_rule a.head (block c.before).node_at-node.result.now 0 a.level ≡ true
ruled c = passed (tested c.before) c.if-not-node_passes.false-raw

shared_slice_read_result : tie.Need-bounds-node-0
shared_slice_read_result c =
    let a = block c.before.before in
    let p = a.requires in
    omega (arith, block_words p.0 p.1 a.node_at-node.ensures)

add_result : tie.Need-overflow_add-result
add_result c =
    let a = block c.before.before in
    let p = a.requires in
    omega (arith, (node_facts _ _ _ _ (ruled c.before)).depth, (under_node p.0).0, p.2, width_within a.args.f)

returns_3 : tie.Need-returns
returns_3 c =
    let a = block c.before.before.before in
    let p = a.requires in
    block_sound p.0 p.1 a.node_at-node.ensures _ _ (ruled c.before.before) c.width_of.ensures.0

pub passes_spec : {M : Type 1} → statement M
passes_spec =
    tie.close
    (tie.spec returns node_at_requires node_passes_requires returns_2 shared_slice_read_result add_result
    (λ c κs. search rules) returns_3)
