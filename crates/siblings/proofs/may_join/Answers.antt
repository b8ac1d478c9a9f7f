-- Only level-1 nodes are linked.
use Rattle.std.proofs.Common.{rules}
use Rattle.siblings.specs.Nodes.{linked_pair}
use Rattle.siblings.proofs.may_join.Goals as goal

pub returns-then-level-ne1 : goal.returns-then-level-ne1
unfolding linked_pair
returns-then-level-ne1 c = search rules

pub returns-else-level-ne1 : goal.returns-else-level-ne1
unfolding linked_pair
returns-else-level-ne1 c = search rules
