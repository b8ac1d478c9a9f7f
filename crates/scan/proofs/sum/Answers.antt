-- One law for the start, a turn and each way out.
use mathlib.Core.Path.{refl, sym, ap, ◌∙◌}
use mathlib.Core.Bool.{true≢false}
use native.Mathlib.Omega.{arith}
use Rattle.std.specs.Prelude.{Ok}
use Rattle.search.proofs.BlockLaws.{under_page}
use Rattle.search.proofs.WayLaws.{answered_err, damage_passed}
use Rattle.scan.specs.Outcome.{totals_result}
use Rattle.scan.proofs.StandLaws.{held_some, held_none, standing, end_asked, rows_some, taken_count}
use Rattle.scan.proofs.StandLaws.{sum_first, sum_ended, sum_lost, sum_room, sum_over, sum_next}
use Rattle.scan.proofs.sum.Goals as goal

pub returns-in_err-next : goal.returns-in_err-next
returns-in_err-next c =
    let h = answered_err _ _ (sym c.in_err-next.was ∙ c.walk_from.ensures) in
    damage_passed _ c.from_residual.ensures.1 h.1
    ∙ sum_lost _ _ _ _ _ c.requires.0 _ (sum_first _ _ _ _ _ c.args.today c.requires.1 refl refl) h.0

pub loop-next-init : goal.loop-next-init
loop-next-init c =
    (_, sym c.in_ok-next.was ∙ c.walk_from.ensures, sum_first _ _ _ _ _ _ c.requires.1 refl c.no_totals-t.ensures)

pub page_at-page-requires : goal.page_at-page-requires
page_at-page-requires c = under_page c.requires.0

pub end_of-end-requires : goal.end_of-end-requires
end_of-end-requires c =
    let h = held_some c.loop-next.invariant (ap Ok c.in-Some.is) in
    (c.requires.0, standing c.requires.0 h.0.ahead.at h.1)

pub add_rows-t-requires : goal.add_rows-t-requires
add_rows-t-requires c =
    let p = c.requires in
    let h = held_some c.loop-next.invariant (ap Ok c.in-Some.is) in
    let e = end_asked p.0 h.0.ahead.at h.1 c.page_at-page.ensures in
    let w = c.end_of-end.ensures in
    (e.0, w.1, omega (arith, w.2, e.2), omega (arith, w.2, e.3), p.3, h.0.bounded, rw w.0 (sum_room _ _ _ _ _ p.0 _ h.0 h.1 p.2))

pub returns-then-r-high : goal.returns-then-r-high
returns-then-r-high c =
    let h = held_some c.loop-next.invariant (ap Ok c.in-Some.is) in
    let over = rw (standing c.requires.0 h.0.ahead.at h.1).last at c.if-r-high.true in
    ap Ok (rw (c.page_at-page.ensures, c.end_of-end.ensures.0) at c.add_rows-t.ensures.0)
    ∙ ap totals_result (sum_over _ _ _ _ _ c.requires.0 _ h.0 h.1 over)

pub advance-requires : goal.advance-requires
advance-requires c =
    let h = held_some c.loop-next.invariant (ap Ok c.in-Some.is) in
    (c.requires.0, standing c.requires.0 h.0.ahead.at h.1, λ z. absurd (true≢false z))

pub returns-in_err-next-2 : goal.returns-in_err-next-2
returns-in_err-next-2 c =
    let h = held_some c.loop-next.invariant (ap Ok c.in-Some.is) in
    let e = c.end_of-end.ensures.0 in
    let t = c.add_rows-t.ensures in
    let d = answered_err _ _ (sym c.in_err-next-2.was ∙ c.advance.ensures) in
    let below = rw (standing c.requires.0 h.0.ahead.at h.1).last at c.if-r-high.false in
    damage_passed _ c.from_residual-in_err-next-2.ensures.1 d.1
    ∙ sum_lost _ _ _ _ _ c.requires.0 _
    (sum_next _ _ _ _ _ c.requires.0 c.args.today h.0 h.1 below refl (rw (c.page_at-page.ensures, e) at t.0) t.1 (rw e at t.2)) d.0

pub loop-next-smaller : goal.loop-next-smaller
loop-next-smaller c =
    let p = c.requires in
    let h = held_some c.loop-next.invariant (ap Ok c.in-Some.is) in
    let below = rw (standing p.0 h.0.ahead.at h.1).last at c.if-r-high.false in
    omega (
      arith,
      c.end_of-end.ensures.0,
      c.add_rows-t.ensures.2,
      taken_count p.0 h.0.ahead.at h.1 c.args.high below,
      rows_some p.0 h.0.ahead.at h.1,
      sum_room _ _ _ _ _ p.0 _ h.0 h.1 p.2,
    )

pub loop-next-preserved : goal.loop-next-preserved
loop-next-preserved c =
    let h = held_some c.loop-next.invariant (ap Ok c.in-Some.is) in
    let e = c.end_of-end.ensures.0 in
    let t = c.add_rows-t.ensures in
    let below = rw (standing c.requires.0 h.0.ahead.at h.1).last at c.if-r-high.false in (
      _,
      sym c.in_ok-next-2.was ∙ c.advance.ensures,
      sum_next _ _ _ _ _ c.requires.0 c.args.today h.0 h.1 below refl (rw (c.page_at-page.ensures, e) at t.0) t.1 (rw e at t.2),
    )

pub returns : goal.returns
returns c =
    let h = held_none c.loop-next.invariant (ap Ok c.in_default.is) in
    sum_ended _ _ _ _ _ c.requires.0 _ h.3 h.1 h.2
