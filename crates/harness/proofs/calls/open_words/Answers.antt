-- A set-up or an entry that is done may write the store.
use Rattle.harness.proofs.CallLaws.{open_reading, open_refused, open_done}
use Rattle.harness.proofs.calls.open_words.Goals as goal

pub returns-then-not-writes : goal.returns-then-not-writes
returns-then-not-writes c = open_reading _ _ _ c.writes.ensures c.if-not-writes.true-raw

pub returns-then-number-ne0 : goal.returns-then-number-ne0
returns-then-number-ne0 c = open_refused _ _ _ c.writes.ensures c.if-not-writes.false-raw c.if-number-ne0.true

pub returns : goal.returns
returns c =
    open_done _ _ _ c.writes.ensures c.if-not-writes.false-raw c.if-number-ne0.false c.word.ensures c.saturating_add.ensures
    c.page_at.ensures.0
