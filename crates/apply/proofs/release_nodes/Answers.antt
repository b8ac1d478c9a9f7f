-- A node released leaves the sizes, and counts one node more.
use Rattle.std.proofs.Common.{◌≤◌, ◌≡◌, length, refl, arith}
use Rattle.apply.proofs.LoopLaws.{sizes_released, node_counted, nodes_turn, nodes_out}
use Rattle.apply.proofs.release_nodes.Goals as goal

pub loop-node-init : goal.loop-node-init
loop-node-init c = let p = c.requires in record { sizes = p.0; room = omega (arith, p.3); left = refl }

pub release_node-requires : goal.release_node-requires
release_node-requires c =
    let v = c.loop-node.invariant in
    let p = c.requires in (
      v.sizes,
      p.1,
      omega (arith, p.2),
      omega (arith, p.4 c.loop-node.node-index c.loop-node-test.true),
      omega (arith, v.room, c.loop-node-test.true),
    )

pub loop-node-preserved : goal.loop-node-preserved
loop-node-preserved c =
    let v = c.loop-node.invariant in
    let s = c.loop-node.store in
    let t = c.release_node.new.store in
    let r = c.release_node.ensures in
    let long : 16 ≤ length s = omega (arith, c.requires.2, c.loop-node.auto.store) in
    let same : length t ≡ length s = c.release_node.auto.store in
    record {
      sizes = sizes_released s c.args.head v.sizes t _ (omega (arith, long)) r;
      room = omega (arith, v.room, c.loop-node-test.true, node_counted s t _ (omega (arith, long, same)) r);
      left = nodes_turn c.args.nodes.now c.loop-node.node-index s t _ c.loop-node-test.true r v.left;
    }

pub returns : goal.returns
returns c =
    nodes_out c.args.nodes.now c.loop-node.node-index c.loop-node.store _ c.loop-node-test.false c.loop-node.invariant.left
