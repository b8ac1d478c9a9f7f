-- A shift drops the low bits and a mask the high ones.
use Rattle.std.proofs.Common.{arith, pow_pos}
use Rattle.node.proofs.NodeLaws.{entry_none, entry_masked}
use Rattle.node.proofs.entry_number.Goals as goal

pub returns-then-depth-eq0 : goal.returns-then-depth-eq0
returns-then-depth-eq0 c = (entry_none _ _ _ _ c.if-depth-eq0.true, pow_pos c.args.depth, omega arith)

pub returns : goal.returns
returns c = entry_masked _ _ _ _ _ c.width_of.ensures.0 (omega arith)
