-- The entries are spread, and the block is settled with one more bit.
use mathlib.Core.Path.{◌∙◌}
use Prim.Native.Nat.{suc}
use native.Mathlib.Omega.{arith}
use Rattle.node.specs.Node.{depth_word}
use Rattle.split.proofs.ValueLaws.{entries_room}
use Rattle.split.proofs.GrowLaws.{doubled_words}
use Rattle.split.proofs.double_part.Goals as goal

pub spread-requires : goal.spread-requires
spread-requires c =
    omega (arith, entries_room c.args.theta (suc (depth_word c.args.part.now 0)) c.requires.2 c.requires.1, c.pow2.ensures.0)

pub returns : goal.returns
returns c =
    let a = c.args in
    c.settle.ensures
    ∙ doubled_words a.theta a.part.now c.pow2.result c.pow2.ensures.0
    (omega (arith, entries_room a.theta (suc (depth_word a.part.now 0)) c.requires.2 c.requires.1, c.pow2.ensures.0)) c.spread.ensures
