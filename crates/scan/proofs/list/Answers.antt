-- One law for the start, a turn and each way out.
use mathlib.Core.Path.{refl, sym, ap, ◌∙◌}
use mathlib.Core.Bool.{true≢false}
use Prim.Native.Nat.{◌+◌, ◌-◌, ◌<◌}
use native.Mathlib.Omega.{arith}
use Rattle.std.specs.Prelude.{Ok}
use Rattle.page.proofs.Inside.{record_inside}
use Rattle.search.proofs.BlockLaws.{under_page}
use Rattle.search.proofs.WayLaws.{answered_err, damage_passed}
use Rattle.scan.specs.Outcome.{listing_result}
use Rattle.scan.proofs.StandLaws.{held_some, held_none, standing, end_asked, rows_some, taken_count}
use Rattle.scan.proofs.StandLaws.{list_first, list_ended, list_lost, list_full, list_over, list_next}
use Rattle.scan.proofs.list.Goals as goal

pub returns-in_err-next : goal.returns-in_err-next
returns-in_err-next c =
    let h = answered_err _ _ (sym c.in_err-next.was ∙ c.walk_from.ensures) in
    damage_passed _ c.from_residual.ensures.1 h.1
    ∙ list_lost _ _ _ _ _ c.requires.0 _ (list_first _ _ _ _ _ c.args.room c.requires.1 refl) h.0

pub loop-next-init : goal.loop-next-init
loop-next-init c = (_, sym c.in_ok-next.was ∙ c.walk_from.ensures, list_first _ _ _ _ _ _ c.requires.1 refl)

pub end_of-end-requires : goal.end_of-end-requires
end_of-end-requires c =
    let h = held_some c.loop-next.invariant (ap Ok c.in-Some.is) in
    (c.requires.0, standing c.requires.0 h.0.ahead.at h.1)

pub page_at-page-requires : goal.page_at-page-requires
page_at-page-requires c = under_page c.requires.0

pub read_one-item-requires : goal.read_one-item-requires
read_one-item-requires c =
    let h = held_some c.loop-next.invariant (ap Ok c.in-Some.is) in
    let e = end_asked c.requires.0 h.0.ahead.at h.1 c.page_at-page.ensures in
    let l : c.in-Some.r.from + (c.args.room - c.loop-next.count) < c.in-Some.r.to =
    omega (arith, c.if-n-room.true, c.end_of-end.ensures.2) in
    (omega (arith, l, e.3), record_inside e.0 (omega (arith, l, e.2)))

pub returns-then-n-room : goal.returns-then-n-room
returns-then-n-room c =
    let h = held_some c.loop-next.invariant (ap Ok c.in-Some.is) in
    rw (ap (λ x. x.key) c.read_one-item.ensures, c.page_at-page.ensures)
    (ap listing_result (list_full _ _ _ _ _ c.requires.0 _ h.0 h.1 (rw c.end_of-end.ensures.0 at c.if-n-room.true)))

pub returns-then-r-high : goal.returns-then-r-high
returns-then-r-high c =
    let h = held_some c.loop-next.invariant (ap Ok c.in-Some.is) in
    let e = c.end_of-end.ensures.0 in
    let over = rw (standing c.requires.0 h.0.ahead.at h.1).last at c.if-r-high.true in
    ap (λ i. Ok (record { count = c.loop-next.count + (i - c.in-Some.r.from); more = 0 })) e
    ∙ ap listing_result (list_over _ _ _ _ _ c.requires.0 _ h.0 h.1 over (rw e at c.if-n-room.false))

pub advance-requires : goal.advance-requires
advance-requires c =
    let h = held_some c.loop-next.invariant (ap Ok c.in-Some.is) in
    (c.requires.0, standing c.requires.0 h.0.ahead.at h.1, λ z. absurd (true≢false z))

pub returns-in_err-next-2 : goal.returns-in_err-next-2
returns-in_err-next-2 c =
    let h = held_some c.loop-next.invariant (ap Ok c.in-Some.is) in
    let d = answered_err _ _ (sym c.in_err-next-2.was ∙ c.advance.ensures) in
    let below = rw (standing c.requires.0 h.0.ahead.at h.1).last at c.if-r-high.false in
    damage_passed _ c.from_residual-in_err-next-2.ensures.1 d.1
    ∙ list_lost _ _ _ _ _ c.requires.0 _
    (list_next _ _ _ _ _ c.requires.0 c.args.room h.0 h.1 below (rw c.end_of-end.ensures.0 at c.if-n-room.false) refl) d.0

pub loop-next-smaller : goal.loop-next-smaller
loop-next-smaller c =
    let h = held_some c.loop-next.invariant (ap Ok c.in-Some.is) in
    let below = rw (standing c.requires.0 h.0.ahead.at h.1).last at c.if-r-high.false in
    omega (
      arith,
      c.end_of-end.ensures.0,
      taken_count c.requires.0 h.0.ahead.at h.1 c.args.high below,
      rows_some c.requires.0 h.0.ahead.at h.1,
      c.if-n-room.false,
      h.0.within,
    )

pub loop-next-preserved : goal.loop-next-preserved
loop-next-preserved c =
    let h = held_some c.loop-next.invariant (ap Ok c.in-Some.is) in
    let e = c.end_of-end.ensures.0 in
    let below = rw (standing c.requires.0 h.0.ahead.at h.1).last at c.if-r-high.false in (
      _,
      sym c.in_ok-next-2.was ∙ c.advance.ensures,
      rw e (list_next _ _ _ _ _ c.requires.0 c.args.room h.0 h.1 below (rw e at c.if-n-room.false) refl),
    )

pub returns : goal.returns
returns c =
    let h = held_none c.loop-next.invariant (ap Ok c.in_default.is) in
    list_ended _ _ _ _ _ c.requires.0 _ h.3 h.1 h.2
