-- By the test.
use Rattle.std.proofs.Common.{rules}
use Rattle.siblings.specs.Marks.{mark}
use Rattle.siblings.proofs.mark_of.Goals as goal

pub returns-then-used-m : goal.returns-then-used-m
unfolding mark
returns-then-used-m c = search rules

pub returns : goal.returns
unfolding mark
returns c = search rules
