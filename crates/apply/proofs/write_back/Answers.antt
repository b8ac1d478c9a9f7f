-- The forward link and the number are those of the lowest carried block.
use Rattle.std.proofs.Common.{refl}
use Rattle.store.specs.Head.{word}
use Rattle.apply.proofs.LoopLaws.{relink_is, back_off, back_on}
use Rattle.apply.proofs.write_back.Goals as goal

pub returns-then-not-linked : goal.returns-then-not-linked
returns-then-not-linked c =
    let a = c.args in
    back_off a.store.now _ a.head.theta a.numbers.now a.blocks.now a.linked c.if-not-linked.true refl

pub returns : goal.returns
returns c =
    let a = c.args in
    let on = c.if-not-linked.false in
    back_on a.store.now _ a.head.theta a.numbers.now a.blocks.now a.linked on c.requires.1 (c.requires.2 on).1
    (relink_is a.store.now a.head c.requires.0 _ (word a.blocks.now 3) (word a.numbers.now 0) c.relink.ensures.0 c.relink.ensures.1)
