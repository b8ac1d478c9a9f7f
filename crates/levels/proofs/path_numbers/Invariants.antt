-- The levels passed have their numbers.
use Rattle.std.proofs.Common.{◌≡◌, ℕ, ◌<◌, get_or}
use Rattle.store.specs.Head.{word}
use Rattle.search.specs.Descent.{no_step}
use Rattle.levels.proofs.path_numbers.Given as goal

abbrev pub invariant-loop-i : goal.invariant-loop-i
invariant-loop-i l = (j : ℕ) → j < l.i → word l.numbers j ≡ (get_or l.steps j no_step).node
