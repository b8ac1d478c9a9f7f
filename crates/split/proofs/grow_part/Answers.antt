-- A run with room is halved as it stands. Another has one entry, which the doubling makes a run of two: entry 2i stands in it whichever of
-- the two the key takes.
use mathlib.Core.Path.{◌∙◌}
use native.Mathlib.Omega.{arith}
use Rattle.node.specs.Node.{depth_word}
use Rattle.split.proofs.ValueLaws.{entries_room}
use Rattle.split.proofs.GrowLaws.{grown_slack, grown_full, twice_at}
use Rattle.split.proofs.grow_part.Goals as goal

pub bounds-part-i : goal.bounds-part-i
bounds-part-i c = omega (arith, entries_room c.args.theta (depth_word c.args.part.now 0) c.requires.2 c.requires.1, c.requires.3)

pub returns-then-part-i : goal.returns-then-part-i
returns-then-part-i c k e =
    let a = c.args in
    grown_slack a.theta a.part.now a.i a.a a.c k e c.if-part-i.true (c.halve_run.ensures k e)

pub halve_run-requires-2 : goal.halve_run-requires-2
halve_run-requires-2 c =
    let a = c.args in
    let t = twice_at a.theta a.part.now a.i (omega (arith, c.if-part-i.false, c.requires.4)) c.requires.3 c.double_part.ensures in
    (c.requires.0, c.double_part.auto.part ∙ c.requires.1, t.0, t.1, omega (arith, t.2, c.requires.4))

pub returns : goal.returns
returns c k e =
    let a = c.args in
    grown_full a.theta a.part.now a.i a.a a.c k e (omega (arith, c.if-part-i.false, c.requires.4)) c.requires.3
    (omega (arith, c.if-part-i.false, c.requires.5)) c.double_part.ensures c.halve_run-2.ensures
