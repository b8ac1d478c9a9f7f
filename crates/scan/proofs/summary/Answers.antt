-- One law for each way out.
use mathlib.Core.Path.{sym, ap, ◌∙◌}
use native.Mathlib.Omega.{arith}
use Rattle.store.proofs.HeadLaws.{head_long}
use Rattle.search.proofs.WayLaws.{answered_err, damage_passed}
use Rattle.scan.specs.Summary.{summary_reply}
use Rattle.scan.proofs.SummaryLaws.{summary_head, summary_order, summary_day, summary_lost, summary_told}
use Rattle.scan.proofs.summary.Goals as goal

pub returns-then-not-head_ok : goal.returns-then-not-head_ok
returns-then-not-head_ok c = summary_head _ _ _ _ _ (sym c.head_ok.ensures ∙ c.if-not-head_ok.true)

pub returns-then-high-low : goal.returns-then-high-low
returns-then-high-low c = summary_order _ _ _ _ _ (sym c.head_ok.ensures ∙ c.if-not-head_ok.false) c.if-high-low.true

pub returns-then-not-lawful_day : goal.returns-then-not-lawful_day
returns-then-not-lawful_day c =
    summary_day _ _ _ _ _ (sym c.head_ok.ensures ∙ c.if-not-head_ok.false) (omega arith)
    (sym c.lawful_day.ensures ∙ c.if-not-lawful_day.true)

pub head_of-requires : goal.head_of-requires
head_of-requires c = head_long _ _ (sym c.head_ok.ensures ∙ c.if-not-head_ok.false)

pub returns-in_err-t : goal.returns-in_err-t
returns-in_err-t c =
    let a = c.args in
    let d = answered_err _ _ (sym c.in_err-t.was ∙ (rw (c.head_of.ensures, c.from.ensures, c.from-2.ensures) at c.sum.ensures)) in
    ap summary_reply (damage_passed _ c.from_residual.ensures.1 d.1)
    ∙ summary_lost a.f a.store.now a.low a.high a.today (sym c.head_ok.ensures ∙ c.if-not-head_ok.false) c.if-high-low.false
    (sym c.lawful_day.ensures ∙ c.if-not-lawful_day.false) d.0

pub returns : goal.returns
returns c =
    let a = c.args in
    summary_told a.f a.store.now a.low a.high a.today (sym c.head_ok.ensures ∙ c.if-not-head_ok.false) c.if-high-low.false
    (sym c.lawful_day.ensures ∙ c.if-not-lawful_day.false) (sym c.in_ok-t.was ∙ (rw (c.head_of.ensures, c.from.ensures, c.from-2.ensures) at c.sum.ensures))
