-- The totals have the records so far.
use Rattle.std.proofs.Common.{◌≡◌, ◌+◌, ◌-◌}
use Rattle.totals.specs.Totals.{Bounded, totals_of}
use Rattle.scan.specs.Walk.{rows}
use Rattle.scan.proofs.add_rows.Given as goal

abbrev pub invariant-loop-i : goal.invariant-loop-i
invariant-loop-i l =
    (l.t ≡ totals_of l.fn.totals (rows l.f l.page l.from (l.i - l.from)) l.today) × (Bounded l.t)
    × (l.t.count ≡ l.fn.totals.count + (l.i - l.from))
