-- The node's depth is its block's first word.
use native.Mathlib.Omega.{arith}
use Rattle.search.proofs.BlockLaws.{block_words}
use Rattle.search.proofs.ReachLaws.{depth_small, behind_is}
use Rattle.search.proofs.run_behind.Statement.{statement}
use Rattle.search.proofs.run_behind.Tie as tie

node_at_requires : tie.Need-node_at-node-requires
node_at_requires c κs = (c.requires.0, c.requires.1.in_use)

shared_slice_read_run_after : tie.Need-bounds-node-0
shared_slice_read_run_after c =
    let p = c.requires in omega (arith, block_words p.0 p.1.in_use c.node_at-node.ensures)

run_after_requires : tie.Need-run_after-requires
run_after_requires c κs =
    let p = c.requires in depth_small p.0 p.1 c.node_at-node.ensures

returns : tie.Need-returns
returns c =
    let p = c.requires in
    (behind_is p.0 p.1 c.node_at-node.ensures _ _ _ c.run_after.ensures.0, c.run_after.ensures.1)

pub run_behind_spec : {M : Type 1} → statement M
run_behind_spec = tie.close (tie.spec node_at_requires shared_slice_read_run_after run_after_requires returns)
