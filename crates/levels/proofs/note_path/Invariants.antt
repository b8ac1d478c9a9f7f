-- The steps that are left, marked after those that are, are all of them.
use Rattle.std.proofs.Common.{◌≡◌, drop}
use Rattle.siblings.specs.Paths.{path_marks}
use Rattle.levels.proofs.note_path.Given as goal

abbrev pub invariant-loop-step : goal.invariant-loop-step
invariant-loop-step l = path_marks (drop l.step-index l.step-items) l.marks ≡ path_marks l.step-items l.fn.marks
