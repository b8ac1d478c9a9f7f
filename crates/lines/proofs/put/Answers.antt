-- Each store of a digit moves it from what is still to be written to the bytes.
use Rattle.std.proofs.Common.{◌≡◌, ℕ, ◌-◌, ◌∙◌, arith, sym, ap}
use Rattle.std.proofs.Math.ListN.{length-set}
use Rattle.lists.specs.Lists.{replaced}
use Rattle.lines.proofs.ColumnLaws.{padded}
use Rattle.lines.proofs.WriteLaws.{put_first, put_more, put_done}
use Rattle.lines.proofs.put.Goals as goal

pub loop-k-preserved : goal.loop-k-preserved
loop-k-preserved c =
    let a = c.args in
    let l = c.loop-k in (
      omega arith,
      omega arith,
      put_more a.at l.k l.n _ l.out (omega arith) (omega (arith, length-set {A = ℕ})) c.shown.ensures ∙ l.invariant.2,
    )

pub returns : goal.returns
returns c =
    let a = c.args in
    let l = c.loop-k in
    let z : 0 ≡ l.k - a.at = omega arith in
    sym (put_done a.at l.n l.out) ∙ ap (λ j. replaced a.at j (padded j l.n) l.out) z ∙ l.invariant.2
    ∙ put_first a.at a.w a.number a.out.now (omega arith) (omega arith)
