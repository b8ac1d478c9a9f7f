-- The words past the first n are as they were.
use Rattle.harness.proofs.ScriptLaws.{played_part, played_not}
use Rattle.harness.proofs.script.play_in.Goals as goal

pub returns-then-n-store : goal.returns-then-n-store
returns-then-n-store g c =
    played_part _ _ _ _ c.if-n-store.true c.play.ensures

pub returns-else-n-store : goal.returns-else-n-store
returns-else-n-store g c = played_not _ _ _ _ c.if-n-store.false
