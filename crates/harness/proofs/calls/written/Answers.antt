-- A range that is done has written its records.
use Rattle.harness.proofs.CallLaws.{written_other, written_refused, written_range}
use Rattle.harness.proofs.calls.written.Goals as goal

pub returns-then-not-is_range : goal.returns-then-not-is_range
returns-then-not-is_range c = written_other _ _ c.is_range.ensures c.if-not-is_range.true-raw

pub returns-then-reply-ne0 : goal.returns-then-reply-ne0
returns-then-reply-ne0 c = written_refused _ _ c.is_range.ensures c.if-not-is_range.false-raw c.if-reply-ne0.true

pub returns : goal.returns
returns c =
    written_range _ _ c.is_range.ensures c.if-not-is_range.false-raw c.if-reply-ne0.false c.low.ensures c.to_index.ensures.0
