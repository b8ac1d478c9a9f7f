-- By the head and the released blocks of the words.
use Rattle.insert.proofs.EnterCode.{entered_is}
use Rattle.insert.proofs.entry_done.Goals as goal

pub returns : goal.returns
returns c = λ it e. entered_is it _ e c.requires.1 c.released_of-r.ensures c.saturating_sub.ensures c.saturating_sub-2.ensures
