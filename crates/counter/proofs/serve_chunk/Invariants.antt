-- Each turn takes the input on from where the one before ended.
use Rattle.std.proofs.Common.{◌≤◌, length, drop}
use Rattle.counter.proofs.Laws.{Reaches, to_write}
use Rattle.counter.proofs.serve_chunk.Given as goal

abbrev pub invariant-loop-p : goal.invariant-loop-p
invariant-loop-p g l =
    let held = g.W.Write.contents in
    Reaches l.initial.store l.initial.desk l.input (held l.initial.writer) l.store l.desk (held l.writer) l.from × (l.from ≤ length l.input)

abbrev pub decreases-loop-p : goal.decreases-loop-p
decreases-loop-p g l = to_write l.store l.desk (drop l.from l.input)
