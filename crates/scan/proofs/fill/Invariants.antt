-- The records written so far are the first ones of the walk.
use Rattle.scan.proofs.StandLaws.{Held}
use Rattle.scan.proofs.FillWalk.{Filling}
use Rattle.scan.proofs.fill.Given as goal

abbrev pub invariant-loop-next : goal.invariant-loop-next
invariant-loop-next l = Held (λ w. Filling l.f l.store l.head l.low l.n l.fn.out l.out l.at l.left w) l.next

abbrev pub decreases-loop-next : goal.decreases-loop-next
decreases-loop-next l = l.left
