-- The last reply ends the transcript of all that was read.
use Rattle.std.proofs.Common.{rules}
use Rattle.counter.proofs.Laws.{ended_all}
use Rattle.counter.proofs.run.Goals as goal

pub returns : goal.returns
returns g c = ended_all _ _ _ _ _ _ _ _ c.in_ok-desk.desk _ c.in_ok-desk.ensures (search rules) (search rules)
