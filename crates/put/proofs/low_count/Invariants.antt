-- No key with the bit set has been seen so far.
use Rattle.std.proofs.Common.{◌≡◌, ℕ, ◌<◌, false}
use Rattle.lists.specs.Bits.{bit as bit_of}
use Rattle.page.specs.Page.{key_at}
use Rattle.put.proofs.low_count.Given as goal

abbrev pub invariant-loop-i : goal.invariant-loop-i
invariant-loop-i l = (j : ℕ) → j < l.i → bit_of l.bit (key_at l.f l.page j) ≡ false
