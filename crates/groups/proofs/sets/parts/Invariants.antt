use mathlib.Core.Path.{◌≡◌}
use Prim.Native.Nat.{◌-◌}
use Rattle.harness.specs.Script.{both}
use Rattle.groups.specs.Sets.{parts_from, parts_of}
use Rattle.groups.proofs.sets.parts.Given as goal

abbrev pub invariant-loop-turn : goal.invariant-loop-turn
invariant-loop-turn g l =
    parts_from l.list l.room (both l.store l.tally) l.low (1024 - l._turn) ≡ parts_of l.list l.room (both l.initial.store l.initial.tally)
