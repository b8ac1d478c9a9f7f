-- The promises hold, by the laws on totals of a list, at the totals of no record.
use mathlib.Core.Path.{refl}
use native.Mathlib.Omega.{arith}
use Rattle.totals.specs.Totals.{no_totals}
use Rattle.totals.specs.Promises.{CountAndTotal, EarliestKey}
use Rattle.totals.proofs.Laws.{totals_count, totals_total}
use Rattle.totals.proofs.Earliest.{from_none}

pub count_and_total : CountAndTotal
unfolding no_totals
count_and_total its today = (omega (arith, totals_count no_totals its today), omega (arith, totals_total no_totals its today))

pub earliest_key_lem : EarliestKey
unfolding no_totals
earliest_key_lem its today = from_none today no_totals its refl
