-- The prefix lengths from this one on, tried as all are.
use mathlib.Core.Path.{◌≡◌}
use Prim.Native.Nat.{◌-◌}
use Rattle.stretches.specs.Stretches.{depth_from, depth_of}
use Rattle.stretches.proofs.depth_at.Given as goal

abbrev pub invariant-loop-depth : goal.invariant-loop-depth
invariant-loop-depth l = depth_from l.row l.rule l.from l.start l.depth (32 - l.depth) ≡ depth_of l.row l.rule l.from l.start
