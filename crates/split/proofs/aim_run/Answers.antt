-- The run keeps its local depth, and all of it gets the pointer.
use Rattle.split.proofs.GrowLaws.{aimed_words}
use Rattle.split.proofs.aim_run.Goals as goal

pub returns : goal.returns
returns c k e = aimed_words c.args.theta c.args.part.now c.args.i k e c.args.q c.write_run.ensures
