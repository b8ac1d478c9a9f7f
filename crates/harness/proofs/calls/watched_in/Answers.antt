-- The output has min room 64 words.
use borrow.Author.Rules.{rules}
use Rattle.harness.proofs.CallLaws.{in_room}
use Rattle.harness.proofs.calls.watched_in.Goals as goal

pub returns : goal.returns
returns c = in_room _ _ _ _ (search rules) c.watched.ensures
