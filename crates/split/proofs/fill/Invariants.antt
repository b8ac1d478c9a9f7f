-- The part so far is the old one with the first of these entries set.
use Rattle.std.proofs.Common.{◌≡◌}
use Rattle.split.specs.Value.{with_entries}
use Rattle.split.proofs.fill.Given as goal

abbrev pub invariant-loop-j : goal.invariant-loop-j
invariant-loop-j l = l.part ≡ with_entries l.initial.part l.start l.j (λ i. (l.h, l.p))
