-- What is left to add, added, gives the whole.
use mathlib.Core.Path.{◌≡◌}
use Prim.Native.Nat.{◌-◌}
use Rattle.model.specs.Model.{no_sheet, rank_of, sheet_from}
use Rattle.model.proofs.sheet_over.Given as goal

abbrev pub invariant-loop-i : goal.invariant-loop-i
invariant-loop-i l =
    let i = rank_of l.list l.low in
    sheet_from l.list l.today l.sheet l.i (l.end - l.i) ≡ sheet_from l.list l.today no_sheet i (l.end - i)
