-- A block written leaves the sizes.
use Rattle.std.proofs.Common.{◌≤◌, length, arith}
use Rattle.apply.proofs.LoopLaws.{node_small, sizes_node, blocks_first, blocks_turn, blocks_out}
use Rattle.apply.proofs.write_blocks.Goals as goal

pub loop-i-init : goal.loop-i-init
loop-i-init c =
    let a = c.args in
    record { sizes = c.requires.0; left = blocks_first a.head.theta a.numbers.now a.blocks.now a.store.now (length a.numbers.now) }

pub write_block-requires : goal.write_block-requires
write_block-requires c =
    let p = c.requires in (
      c.loop-i.invariant.sizes,
      p.1,
      omega (arith, c.loop-i.auto.store, p.4 c.loop-i.i c.loop-i-test.true),
      omega (arith, p.3, c.loop-i-test.true, node_small c.args.head.theta p.1),
    )

pub loop-i-preserved : goal.loop-i-preserved
loop-i-preserved c =
    let v = c.loop-i.invariant in
    let a = c.args in
    let s = c.loop-i.store in
    let t = c.write_block.new.store in
    let long : 8 ≤ length s = omega (arith, c.requires.2, c.loop-i.auto.store) in
    record {
      sizes = sizes_node s a.head v.sizes t _ _ long c.write_block.ensures;
      left = blocks_turn a.head.theta a.numbers.now a.blocks.now s t _ c.loop-i.i (length a.numbers.now) c.loop-i-test.true c.write_block.ensures v.left;
    }

pub returns : goal.returns
returns c =
    let a = c.args in
    let v = c.loop-i.invariant in
    (blocks_out a.head.theta a.numbers.now a.blocks.now c.loop-i.store _ c.loop-i.i (length a.numbers.now) c.loop-i-test.false v.left, v.sizes)
