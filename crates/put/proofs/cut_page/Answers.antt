-- The page has room for its n records, and the words behind them are all cleared.
use Rattle.std.proofs.Common.{refl, arith, length}
use Rattle.std.proofs.Math.ListN.{length-set}
use Rattle.put.proofs.PutLaws.{room_for, cut_words}
use Rattle.put.proofs.cut_page.Goals as goal

pub bounds-part-0 : goal.bounds-part-0
bounds-part-0 c =
    let a = c.args in
    omega (arith, room_for a.f a.capacity _ 0 (length a.part.now) refl c.requires.1 (omega arith))

pub slice_bounds-fill-count : goal.slice_bounds-fill-count
slice_bounds-fill-count c =
    let a = c.args in
    omega (arith, length-set a.part.now 0 a.n, room_for a.f a.capacity _ a.n (length a.part.now) c.words_of.ensures.0 c.requires.1 c.requires.0)

pub slice_bounds-fill-start : goal.slice_bounds-fill-start
slice_bounds-fill-start c =
    let a = c.args in
    omega (arith, length-set a.part.now 0 a.n, room_for a.f a.capacity _ a.n (length a.part.now) c.words_of.ensures.0 c.requires.1 c.requires.0)

pub returns : goal.returns
returns c =
    let a = c.args in
    cut_words a.f a.capacity a.n c.words_of.result a.part.now c.fill.new.self c.requires.0 c.requires.1 c.words_of.ensures.0
    (c.fill.ensures.after (λ y e. e))
