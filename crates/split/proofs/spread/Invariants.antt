-- From the top down: the entries that a turn has not come to are the old ones, those behind twice them are spread.
use Rattle.std.proofs.Common.{◌≡◌}
use Rattle.split.proofs.ValueLaws.{spread_from}
use Rattle.split.proofs.spread.Given as goal

abbrev pub invariant-loop-j : goal.invariant-loop-j
invariant-loop-j l = l.part ≡ spread_from l.initial.part l.n l.j
