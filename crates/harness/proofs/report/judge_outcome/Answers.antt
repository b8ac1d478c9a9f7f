-- The reply is judged, then whether the words stay.
use Rattle.harness.proofs.TallyLaws.{outcome_tried}
use Rattle.harness.proofs.report.judge_outcome.Goals as goal

pub returns : goal.returns
returns g c = outcome_tried _ _ _ c.judge.ensures c.hold.ensures
