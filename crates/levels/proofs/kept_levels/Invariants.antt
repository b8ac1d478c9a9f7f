-- What the levels up to l keep is what all keep.
use Rattle.std.proofs.Common.{◌≡◌, List, ◌≤◌, length, take}
use Rattle.remove.specs.Remove.{Spot, kept_levels}
use Rattle.levels.specs.Levels.{LevelsAre}
use Rattle.levels.proofs.kept_levels.Given as goal

abbrev pub invariant-loop-l : goal.invariant-loop-l
invariant-loop-l l =
    (1 ≤ l.levels → 1 ≤ l.l)
    × ((xs : List Spot) → LevelsAre l.store l.head.theta l.changed l.numbers l.blocks l.levels xs
    → length (kept_levels (take l.l xs)) ≡ length (kept_levels xs))
