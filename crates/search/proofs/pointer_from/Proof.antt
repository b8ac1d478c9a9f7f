-- The first pointer in the block is the node's.
use mathlib.Core.Path.{◌∙◌}
use native.Mathlib.Omega.{arith}
use Rattle.search.proofs.BlockLaws.{block_words}
use Rattle.search.proofs.ReachLaws.{depth_small, entries_inside, pointer_is}
use Rattle.search.proofs.pointer_from.Statement.{statement}
use Rattle.search.proofs.pointer_from.Tie as tie

node_at_requires : tie.Need-node_at-node-requires
node_at_requires c κs = (c.requires.0, c.requires.1.in_use)

shared_slice_read_first_pointer : tie.Need-bounds-node-0
shared_slice_read_first_pointer c =
    let p = c.requires in omega (arith, block_words p.0 p.1.in_use c.node_at-node.ensures)

first_pointer_requires : tie.Need-first_pointer-requires
first_pointer_requires c κs =
    let p = c.requires in
    let e = c.node_at-node.ensures in
    (depth_small p.0 p.1 e, entries_inside p.0 p.1 e, p.2)

returns : tie.Need-returns
returns c =
    let p = c.requires in
    c.first_pointer.ensures ∙ pointer_is p.0 p.1 c.node_at-node.ensures _

pub pointer_from_spec : {M : Type 1} → statement M
pointer_from_spec = tie.close (tie.spec node_at_requires shared_slice_read_first_pointer first_pointer_requires returns)
