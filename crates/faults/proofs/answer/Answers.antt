-- The store is what the call leaves, and the tally is judged by the outcome.
use Rattle.faults.proofs.Laws.{answered}
use Rattle.faults.proofs.answer.Goals as goal

pub returns : goal.returns
returns g c =
    answered _ _ _ _ c.watched_in-outcome.ensures c.numbered.ensures c.judge_outcome.ensures
