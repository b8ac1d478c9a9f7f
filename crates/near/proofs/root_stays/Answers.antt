-- One level, or the root's depth word.
use mathlib.Core.Path.{◌∙◌}
use borrow.Author.Tests.{eq-eqb}
use Rattle.near.proofs.Told.{one_level, root_told}
use Rattle.near.proofs.root_stays.Goals as goal

pub returns-then-head-eq1 : goal.returns-then-head-eq1
returns-then-head-eq1 c = eq-eqb _ _ c.if-head-eq1.true ∙ one_level _ _ c.if-head-eq1.true

pub returns-else-head-eq1 : goal.returns-else-head-eq1
returns-else-head-eq1 c = root_told _ _ c.if-head-eq1.false c.node_start.ensures.0 c.word.ensures
