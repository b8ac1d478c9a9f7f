-- Span by span: the records so far, with what is left from the walk on, make the range whole.
use Rattle.std.proofs.Common.{◌-◌}
use Rattle.std.specs.Prelude.{Ok}
use Rattle.scan.proofs.StandLaws.{Held, Listed}
use Rattle.scan.proofs.list.Given as goal

abbrev pub invariant-loop-next : goal.invariant-loop-next
invariant-loop-next l = Held (λ w. Listed l.f l.store l.head l.low l.high l.room w l.count) (Ok l.next)

abbrev pub decreases-loop-next : goal.decreases-loop-next
decreases-loop-next l = l.room - l.count
