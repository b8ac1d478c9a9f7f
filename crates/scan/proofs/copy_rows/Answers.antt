-- The output begins with the words that are copied, and is as it was after them.
use mathlib.Core.Path.{ap, ◌∙◌}
use mathlib.Core.List.{◌++◌}
use Prim.Native.Nat.{◌+◌, ◌*◌}
use native.Mathlib.Omega.{arith}
use lib.ListN.{drop}
use Rattle.lists.specs.Lists.{part}
use Rattle.scan.proofs.FillLaws.{copied_part}
use Rattle.scan.proofs.copy_rows.Goals as goal

pub returns : goal.returns
returns c =
    let a = c.args in
    let e = c.words_of-w.ensures.0 in
    let w = c.words_of-w.result in
    copied_part a.page.now a.out.now _ (1 + w * a.i) (w * a.n) (rw e (omega (arith, c.requires.1))) c.copy.ensures
    ∙ ap (λ v. part a.page.now (1 + v * a.i) (v * a.n) ++ drop (v * a.n) a.out.now) e
