-- What is spelled by the digits so far and the bytes left stays the same, and i digits are below 10^i, so nothing wraps.
use Rattle.std.proofs.Common.{◌≡◌, ◌<◌, ◌^◌, drop}
use Rattle.lines.specs.Steps.{spelled_by}
use Rattle.lines.proofs.spelled.Given as goal

abbrev pub invariant-loop-b : goal.invariant-loop-b
invariant-loop-b l = (l.n < 10 ^ l.b-index) × (spelled_by l.n (drop l.b-index l.digits) ≡ spelled_by 0 l.digits)
