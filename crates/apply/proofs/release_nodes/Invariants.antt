-- The nodes that are left, released after those that are, are all of them.
use Rattle.std.proofs.Common.{◌≡◌, ◌+◌, ◌-◌, ◌^◌, ◌<◌, length, drop}
use Rattle.store.specs.Head.{word, head_of}
use Rattle.split.specs.Insertion.{SameSizes}
use Rattle.remove.specs.Remove.{release_nodes}
use Rattle.apply.proofs.release_nodes.Given as goal

abbrev pub invariant-loop-node : goal.invariant-loop-node
invariant-loop-node l = record {
  sizes : SameSizes (head_of l.store) l.head;
  room : word l.store 10 + (length l.nodes - l.node-index) < 2 ^ 32;
  left : release_nodes l.store (drop l.node-index l.nodes) ≡ release_nodes l.initial.store l.nodes;
}
