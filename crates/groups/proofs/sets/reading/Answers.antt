-- A range is a part with an output of its own; any other reading has no output.
use Rattle.groups.proofs.SetLaws.{read_range, read_other}
use Rattle.groups.proofs.sets.reading.Goals as goal

pub returns-then-is_range : goal.returns-then-is_range
returns-then-is_range g c = read_range _ _ _ _ c.is_range.ensures c.if-is_range.true c.part.ensures

pub returns : goal.returns
returns g c =
    read_other _ _ _ _ c.is_range.ensures c.if-is_range.false c.watched_in-outcome.ensures c.reply_to.ensures c.judge_outcome.ensures
