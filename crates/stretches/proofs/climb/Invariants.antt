-- The levels still to come, climbed after those so far, are all levels.
use mathlib.Core.Path.{◌≡◌}
use Prim.Native.Nat.{◌-◌}
use Rattle.stretches.specs.Stretches.{climbed_from}
use Rattle.stretches.proofs.climb.Given as goal

abbrev pub invariant-loop-level : goal.invariant-loop-level
invariant-loop-level l =
    climbed_from l.theta (record { row = l.row; above = l.above; counts = l.counts }) (33 - l._level)
    ≡ climbed_from l.theta (record {
      row = l.initial.row;
      above = l.initial.above;
      counts = record { levels = 0; nodes = 0; pages = l.pages };
    }) 33
