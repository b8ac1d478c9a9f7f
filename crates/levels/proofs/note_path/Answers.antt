-- The steps that are left, marked after those that are, are all of them.
use mathlib.Core.Path.{refl}
use Rattle.levels.proofs.PathFacts.{marks_turn, marks_out}
use Rattle.levels.proofs.note_path.Goals as goal

pub loop-step-init : goal.loop-step-init
loop-step-init c = refl

pub loop-step-preserved : goal.loop-step-preserved
loop-step-preserved c = marks_turn _ c.loop-step.step-index c.loop-step.marks _ c.loop-step-test.true c.loop-step.invariant

pub returns : goal.returns
returns c = marks_out _ c.loop-step.step-index c.loop-step.marks _ c.loop-step-test.false c.loop-step.invariant
