-- The node in hand is the right one of the pair, or the left one.
use Rattle.std.proofs.Common.{rules}
use Rattle.remove.specs.Remove.{links_ok}
use Rattle.siblings.specs.Pairs.{pair_ok}
use Rattle.siblings.proofs.links_ok.Goals as goal

pub returns-then-left : goal.returns-then-left
unfolding links_ok pair_ok
returns-then-left c = search rules

pub returns : goal.returns
unfolding links_ok pair_ok
returns c = search rules
