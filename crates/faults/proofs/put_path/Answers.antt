use mathlib.Core.Path.{refl}
use native.Mathlib.Omega.{arith}
use Rattle.faults.proofs.Laws.{path_turn, path_out}
use Rattle.faults.proofs.put_path.Goals as goal

pub loop-n-init : goal.loop-n-init
loop-n-init c = refl

pub loop-n-preserved : goal.loop-n-preserved
loop-n-preserved c = let l = c.loop-n in path_turn _ l.n l.invariant (omega arith) c.put_node.ensures

pub returns : goal.returns
returns c = let l = c.loop-n in path_out _ l.n l.invariant (omega arith)
