-- The levels so far are done, and the rest of the climb leads to the same end.
use Rattle.std.proofs.Common.{◌≡◌, length}
use Rattle.insert.specs.Enter.{places}
use Rattle.insert.proofs.ClimbCode.{Climbing}
use Rattle.insert.proofs.climb.Given as goal

abbrev pub invariant-loop-i : goal.invariant-loop-i
invariant-loop-i l =
    (length l.store ≡ length l.initial.store)
    × Climbing l.f l.key l.initial.store (places l.f l.key l.fn.head.levels l.fn.path) l.a l.c l.n l.store l.h l.steps l.i l.left l.right
