-- Span by span: the totals so far, with what is left from the walk on, make the summary whole.
use Rattle.std.proofs.Common.{◌+◌, ◌-◌, ◌^◌}
use Rattle.std.specs.Prelude.{Ok}
use Rattle.scan.proofs.StandLaws.{Held, Summed}
use Rattle.scan.proofs.sum.Given as goal

abbrev pub invariant-loop-next : goal.invariant-loop-next
invariant-loop-next l = Held (λ w. Summed l.f l.store l.head l.low l.high l.today w l.t) (Ok l.next)

abbrev pub decreases-loop-next : goal.decreases-loop-next
decreases-loop-next l = 2 ^ 32 + 1 - l.t.count
