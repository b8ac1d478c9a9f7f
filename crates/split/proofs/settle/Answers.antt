-- The four words are written, and what stands after the entries in use is cleared.
use native.Mathlib.Omega.{arith}
use lib.ListN.{length-set}
use Rattle.split.proofs.ValueLaws.{four_words, entries_room, settled}
use Rattle.split.proofs.settle.Goals as goal

pub bounds-part-1 : goal.bounds-part-1
bounds-part-1 c = omega (arith, length-set c.args.part.now 0 c.args.depth, four_words c.args.theta, c.requires.2)

pub bounds-part-2 : goal.bounds-part-2
bounds-part-2 c = simp length-set (omega (arith, four_words c.args.theta, c.requires.2))

pub bounds-part-3 : goal.bounds-part-3
bounds-part-3 c = simp length-set (omega (arith, four_words c.args.theta, c.requires.2))

pub slice_bounds-fill-count : goal.slice_bounds-fill-count
slice_bounds-fill-count c =
    simp length-set (omega (arith, c.pow2.ensures.0, entries_room c.args.theta c.args.depth c.requires.1 c.requires.2))

pub slice_bounds-fill-start : goal.slice_bounds-fill-start
slice_bounds-fill-start c =
    simp length-set (omega (arith, c.pow2.ensures.0, entries_room c.args.theta c.args.depth c.requires.1 c.requires.2))

pub returns : goal.returns
returns c =
    let a = c.args in
    settled a.theta a.depth a.level a.back a.forward a.part.now c.pow2.result _ c.requires.1 c.requires.2 c.pow2.ensures.0
    (c.fill.ensures.after (λ y e. e))
