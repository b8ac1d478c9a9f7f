-- The records are in the first words of the output; the words past them are as they were.
use Rattle.groups.proofs.SetLaws.{part_not, part_made}
use Rattle.groups.proofs.sets.part_in.Goals as goal

pub returns-then-n-out : goal.returns-then-n-out
returns-then-n-out g c = part_not _ _ _ _ _ c.to_index-n.ensures.0 c.if-n-out.true

pub returns : goal.returns
returns g c =
    part_made _ _ _ _ _ c.to_index-n.ensures.0 c.if-n-out.false c.watched-outcome.ensures c.reply_to.ensures
    c.judge_outcome.ensures c.low.ensures c.lists.ensures c.hold.ensures c.low-2.ensures
