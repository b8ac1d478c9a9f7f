-- The answer is counted, then the replies are compared.
use Rattle.harness.proofs.TallyLaws.{judged_compared}
use Rattle.harness.proofs.report.judge.Goals as goal

pub returns : goal.returns
returns g c = judged_compared _ _ _ c.answer_place.ensures c.add.ensures c.compare.ensures
