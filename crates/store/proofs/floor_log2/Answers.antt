-- A power of two that is at most the number, and twice it is above.
use mathlib.Core.Path.{sym}
use native.Mathlib.Omega.{arith}
use Rattle.store.proofs.Sizes.{log2_is, ilog2_low}
use Rattle.store.proofs.floor_log2.Goals as goal

pub returns : goal.returns
returns c =
    let e = c.ilog2.ensures in
    (sym (log2_is _ _ e.power_le (omega (arith, e.next_power_gt))), ilog2_low _ _ e.power_le (omega arith))
