-- The reply is judged by the one that an entry done has, and an entry that is done is counted.
use Rattle.groups.proofs.OrderLaws.{entered_done, entered_not}
use Rattle.groups.proofs.orders.enter.Goals as goal

pub returns-then-got-eq0 : goal.returns-then-got-eq0
returns-then-got-eq0 g c =
    entered_done _ _ _ c.entry.ensures c.reply_to-got.ensures.0 c.reply_to-got.ensures.1 c.done-expected.ensures
    c.judge.ensures c.if-got-eq0.true c.add.ensures

pub returns-else-got-eq0 : goal.returns-else-got-eq0
returns-else-got-eq0 g c =
    entered_not _ _ _ c.entry.ensures c.reply_to-got.ensures.0 c.reply_to-got.ensures.1 c.done-expected.ensures
    c.judge.ensures c.if-got-eq0.false
