-- The run gets a local depth more by one, and its halves the two pointers.
use Rattle.split.proofs.GrowLaws.{halved_words}
use Rattle.split.proofs.halve_run.Goals as goal

pub returns : goal.returns
returns c k e = halved_words c.args.theta c.args.part.now c.args.i k e c.args.a c.args.c c.write_run.ensures
