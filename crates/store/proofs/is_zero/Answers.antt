-- At the end all words are gathered.
use Rattle.store.proofs.Places.{zeros_none, zeros_more}
use Rattle.store.proofs.is_zero.Goals as goal

pub loop-word-init : goal.loop-word-init
loop-word-init c = zeros_none _ 0

pub loop-word-preserved : goal.loop-word-preserved
loop-word-preserved c = let l = c.loop-word in zeros_more _ l.bits l.word-index l.invariant
