-- The call is made, and its outcome judged.
use Rattle.harness.proofs.ScriptLaws.{call_made}
use Rattle.harness.proofs.script.play_call.Goals as goal

pub returns : goal.returns
returns g c = call_made _ _ _ _ c.to_index.ensures.0 c.watched_in-outcome.ensures c.judge_outcome.ensures
