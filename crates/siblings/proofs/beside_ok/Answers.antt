-- By its tests, in order.
use Rattle.std.proofs.Common.{rules}
use Rattle.remove.specs.Remove.{beside_ok}
use Rattle.siblings.proofs.beside_ok.Goals as goal

pub returns-then-m-eq0 : goal.returns-then-m-eq0
unfolding beside_ok
returns-then-m-eq0 c = search rules

pub returns-then-word-eq1 : goal.returns-then-word-eq1
unfolding beside_ok
returns-then-word-eq1 c = search rules

pub returns-else-word-eq1 : goal.returns-else-word-eq1
unfolding beside_ok
returns-else-word-eq1 c = search rules
