-- The two halves of the run are filled, and the block is settled as it was.
use mathlib.Core.Path.{◌∙◌}
use Prim.Native.Nat.{◌+◌, ◌*◌, ◌≤◌}
use native.Mathlib.Omega.{arith}
use lib.ListN.{length}
use Rattle.node.specs.Node.{depth_word}
use Rattle.split.proofs.ValueLaws.{entries_room}
use Rattle.split.proofs.GrowLaws.{run_written}
use Rattle.split.proofs.write_run.Goals.{After-run_of-run}
use Rattle.split.proofs.write_run.Goals as goal

pub bounds-part-i : goal.bounds-part-i
bounds-part-i c = omega (arith, entries_room c.args.theta (depth_word c.args.part.now 0) c.requires.2 c.requires.1, c.requires.3)

room : (c : After-run_of-run) → 4 + 2 * (c.run_of-run.result.start + c.run_of-run.result.n) ≤ length c.args.part.now
room c = omega (arith, entries_room c.args.theta (depth_word c.args.part.now 0) c.requires.2 c.requires.1, c.run_of-run.ensures.2)

pub fill-requires : goal.fill-requires
fill-requires c = omega (arith, room (goal.at.fill-requires c).After-run_of-run)

pub fill-requires-2 : goal.fill-requires-2
fill-requires-2 c = omega (arith, room (goal.at.fill-requires-2 c).After-run_of-run, c.fill.auto.part)

pub returns : goal.returns
returns c =
    let a = c.args in
    let r = c.run_of-run in
    c.settle.ensures
    ∙ run_written a.theta a.part.now a.i r.result.n r.result.start _ a.a a.c r.ensures.0 r.ensures.1 (room (goal.at.returns c).After-run_of-run)
    c.fill.ensures c.fill-2.ensures
