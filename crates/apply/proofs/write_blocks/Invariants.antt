-- The blocks that are left, written after those that are, are all of them.
use Rattle.std.proofs.Common.{◌≡◌, ◌-◌, length}
use Rattle.store.specs.Head.{head_of}
use Rattle.split.specs.Insertion.{SameSizes}
use Rattle.remove.specs.Remove.{put_spots}
use Rattle.apply.specs.Carried.{spots_from}
use Rattle.apply.proofs.write_blocks.Given as goal

abbrev pub invariant-loop-i : goal.invariant-loop-i
invariant-loop-i l = record {
  sizes : SameSizes (head_of l.store) l.head;
  left : put_spots l.store (spots_from l.head.theta l.numbers l.blocks l.i (length l.numbers - l.i))
      ≡ put_spots l.initial.store (spots_from l.head.theta l.numbers l.blocks 0 (length l.numbers));
}
