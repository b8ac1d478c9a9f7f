-- The left one first.
use Rattle.std.proofs.Common.{rules}
use Rattle.siblings.specs.Nodes.{paired}
use Rattle.siblings.proofs.join_pair.Goals as goal

pub returns : goal.returns
unfolding paired
returns c = search rules
