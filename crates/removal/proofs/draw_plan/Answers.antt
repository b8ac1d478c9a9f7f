-- There are enough marks for the nodes in use.
use native.Mathlib.Omega.{arith}
use Rattle.search.proofs.BlockLaws.{under_node}
use Rattle.removal.proofs.draw_plan.Goals as goal

pub draw_with-requires-2 : goal.draw_with-requires-2
draw_with-requires-2 c =
    let p = c.requires in (p.0, p.1, p.2, p.3, p.4, p.5, p.6, p.7, omega (arith, (under_node p.0.under).1), omega arith)
