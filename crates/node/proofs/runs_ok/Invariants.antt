-- The tests of the entries so far are gathered.
use Rattle.std.proofs.Common.{◌≡◌, ◌-◌, ◌^◌, ◌≤◌}
use Rattle.node.proofs.FaultLaws.{Gathered}
use Rattle.node.proofs.runs_ok.Given as goal

abbrev pub invariant-loop-i : goal.invariant-loop-i
invariant-loop-i l = record {
  count : l.n ≡ 2 ^ l.depth;
  within : l.n ≤ 64;
  most : l.i ≤ l.n;
  tests : Gathered l.depth l.low l.high l.node l.i l.g;
}

abbrev pub decreases-loop-i : goal.decreases-loop-i
decreases-loop-i l = l.n - l.i
