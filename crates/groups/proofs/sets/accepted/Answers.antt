-- The entry is counted, and its reply compared with three words of the head.
use Rattle.groups.proofs.SetLaws.{accepted_is}
use Rattle.groups.proofs.sets.accepted.Goals as goal

pub returns : goal.returns
returns g c =
    accepted_is _ _ _ c.word-levels.ensures c.word-nodes.ensures c.word-pages.ensures c.add.ensures
    c.done.ensures c.compare.ensures
