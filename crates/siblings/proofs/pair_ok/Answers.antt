-- By its tests, in order.
use Rattle.std.proofs.Common.{rules}
use Rattle.siblings.specs.Pairs.{pair_ok}
use Rattle.siblings.proofs.pair_ok.Goals as goal

pub returns-then-beside_ok : goal.returns-then-beside_ok
unfolding pair_ok
returns-then-beside_ok c = search rules

pub returns-else-beside_ok : goal.returns-else-beside_ok
unfolding pair_ok
returns-else-beside_ok c = search rules
