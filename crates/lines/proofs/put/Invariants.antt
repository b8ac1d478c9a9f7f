-- The bytes with the columns still to be written put in stay the same.
use Rattle.std.proofs.Common.{◌≡◌, ◌≤◌, ◌-◌}
use Rattle.lists.specs.Lists.{replaced}
use Rattle.lines.proofs.ColumnLaws.{padded}
use Rattle.lines.proofs.put.Given as goal

abbrev pub invariant-loop-k : goal.invariant-loop-k
invariant-loop-k l =
    let left = l.k - l.at in
    let all = l.initial.k - l.at in
    (l.at ≤ l.k) × (l.k ≤ l.initial.k)
    × (replaced l.at left (padded left l.n) l.out ≡ replaced l.at all (padded all l.initial.n) l.initial.out)
