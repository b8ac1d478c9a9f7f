-- Find's tests in order, one law for each way out.
use mathlib.Core.Path.{refl, sym, ap, ◌∙◌}
use mathlib.Core.Bool.{true≢false}
use native.Mathlib.Omega.{arith}
use Rattle.page.proofs.Inside.{page_lent, filled, record_inside}
use Rattle.search.specs.Way.{End}
use Rattle.search.proofs.BlockLaws.{under_page}
use Rattle.search.proofs.FindLaws.{find_null, find_unsound, sound_rule}
use Rattle.removal.proofs.RemoveLaws.{led_page, led_sound, seat_past, seat_other, seat_held}
use Rattle.removal.proofs.seat_of.Goals as goal

pub returns-then-e-eq0 : goal.returns-then-e-eq0
returns-then-e-eq0 c =
    let q = c.requires.1 in
    find_null _ _ _ _ _ refl (sym (ap (λ (e : End). e.ok) q)) (sym (ap (λ (e : End). e.page) q) ∙ c.if-e-eq0.true)

pub page_at-page-requires : goal.page_at-page-requires
page_at-page-requires c = under_page c.requires.0

pub page_sound-requires : goal.page_sound-requires
page_sound-requires c =
    let p = c.requires in ((under_page p.0).1, p.2, rw c.page_at-page.ensures (page_lent _ _ _ _), λ z. absurd (true≢false z))

pub returns-then-not-page_sound : goal.returns-then-not-page_sound
returns-then-not-page_sound c =
    let q = c.requires.1 in
    (find_unsound (led_page q refl c.if-e-eq0.false c.page_at-page.ensures) (led_sound _ _ _ _ q _ c.page_sound.ensures c.if-not-page_sound.true), refl)

pub first_above-i-requires : goal.first_above-i-requires
first_above-i-requires c =
    filled _ _ _ (sound_rule _ _ _ _ _ (sym c.page_sound.ensures ∙ c.if-not-page_sound.false)) (rw c.page_at-page.ensures (page_lent _ _ _ _))

pub returns-then-i-count_of : goal.returns-then-i-count_of
returns-then-i-count_of c =
    let q = c.requires.1 in
    seat_past (led_page q refl c.if-e-eq0.false c.page_at-page.ensures) (led_sound _ _ _ _ q _ c.page_sound.ensures c.if-not-page_sound.false)
    c.first_above-i.ensures.0 (omega (arith, c.count_of.ensures.0, c.if-i-count_of.true))

pub read_one-item-requires : goal.read_one-item-requires
read_one-item-requires c = (
  omega (arith, c.if-i-count_of.false, c.count_of.ensures.1),
  record_inside
      (filled _ _ _ (sound_rule _ _ _ _ _ (sym c.page_sound.ensures ∙ c.if-not-page_sound.false)) (rw c.page_at-page.ensures (page_lent _ _ _ _)))
      (omega (arith, c.count_of.ensures.0, c.if-i-count_of.false)),
)

pub returns-then-item-key : goal.returns-then-item-key
returns-then-item-key c =
    let q = c.requires.1 in
    seat_other (led_page q refl c.if-e-eq0.false c.page_at-page.ensures) (led_sound _ _ _ _ q _ c.page_sound.ensures c.if-not-page_sound.false)
    c.first_above-i.ensures.0 c.read_one-item.ensures (omega (arith, c.count_of.ensures.0, c.if-i-count_of.false)) c.if-item-key.true

pub returns : goal.returns
returns c =
    let q = c.requires.1 in
    seat_held (led_page q refl c.if-e-eq0.false c.page_at-page.ensures) (led_sound _ _ _ _ q _ c.page_sound.ensures c.if-not-page_sound.false)
    c.first_above-i.ensures.0 c.read_one-item.ensures (omega (arith, c.count_of.ensures.0, c.if-i-count_of.false)) c.if-item-key.false
