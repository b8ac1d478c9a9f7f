-- The bits gathered so far are 0 just if the words so far are.
use Rattle.std.proofs.Common.{◌≡◌}
use lib.Dec.{eqb}
use Rattle.store.specs.Head.{zeros}
use Rattle.store.proofs.is_zero.Given as goal

abbrev pub invariant-loop-word : goal.invariant-loop-word
invariant-loop-word l = eqb l.bits 0 ≡ zeros l.part 0 l.word-index
