-- The outcome is judged, and an entry with the answer 0 is an accepted one.
use Rattle.groups.proofs.SetLaws.{entry_accepted, entry_refused}
use Rattle.groups.proofs.sets.entry.Goals as goal

pub returns-then-reply-eq0 : goal.returns-then-reply-eq0
returns-then-reply-eq0 g c =
    entry_accepted _ _ _ _ c.entry.ensures c.watched_in-outcome.ensures c.judge_outcome.ensures c.if-reply-eq0.true
    c.accepted.ensures

pub returns-else-reply-eq0 : goal.returns-else-reply-eq0
returns-else-reply-eq0 g c =
    entry_refused _ _ _ _ c.entry.ensures c.watched_in-outcome.ensures c.judge_outcome.ensures c.if-reply-eq0.false
