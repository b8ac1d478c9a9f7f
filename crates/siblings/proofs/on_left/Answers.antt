-- The last bit of the prefix.
use Rattle.std.proofs.Common.{rules}
use Rattle.remove.specs.Remove.{on_left}
use Rattle.siblings.proofs.on_left.Goals as goal

pub returns : goal.returns
unfolding on_left
returns c = search rules
