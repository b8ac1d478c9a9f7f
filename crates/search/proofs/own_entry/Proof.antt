-- The key's entry, read in the block.
use borrow.Author.Rules.{rules}
use Prim.Native.Nat.{◌+◌, ◌*◌, ◌<◌}
use native.Mathlib.Omega.{arith}
use lib.ListN.{length}
use Rattle.search.proofs.BlockLaws.{under_node, block_words, block_depth, own_inside, own_read}
use Rattle.search.proofs.own_entry.Statement.{statement}
use Rattle.search.proofs.own_entry.Tie as tie

node_at_requires : tie.Need-node_at-node-requires
node_at_requires c κs = let p = c.requires in (p.0, p.1)

shared_slice_read_entry_number : tie.Need-bounds-node-0
shared_slice_read_entry_number c =
    let p = c.requires in
    omega (arith, block_words p.0 p.1 c.node_at-node.ensures)

entry_number_requires : tie.Need-entry_number-i-requires
entry_number_requires c κs =
    let p = c.requires in
    let d = block_depth p.0 p.1 c.node_at-node.ensures in
    (omega (arith, d, p.3), omega (arith, d, p.2, (under_node p.0).0))

-- the entry lies in the block
inside : (c : tie.After-entry_number-i) → 5 + 2 * c.entry_number-i.result < length c.node_at-node.result.now
inside c =
    let p = c.requires in
    own_inside p.0 p.1 c.node_at-node.ensures p.2 _ _ c.entry_number-i.ensures.0

shared_slice_read_t15 : tie.Need-bounds-node-i
shared_slice_read_t15 c = omega (arith, inside c.before)

shared_slice_read_t20 : tie.Need-bounds-node-i-2
shared_slice_read_t20 c = inside c.before.before

returns : tie.Need-returns
returns c =
    let q = c.before.before in
    let p = q.requires in
    own_read p.0 p.1 q.node_at-node.ensures p.2 _ _ q.entry_number-i.ensures.0

pub own_entry_spec : {M : Type 1} → statement M
own_entry_spec =
    tie.close
    (tie.spec node_at_requires shared_slice_read_entry_number entry_number_requires (λ c. search rules) (λ c. search rules)
    (λ c. search rules) (λ c. search rules) shared_slice_read_t15 (λ c. search rules) (λ c. search rules) (λ c. search rules)
    shared_slice_read_t20 returns)
