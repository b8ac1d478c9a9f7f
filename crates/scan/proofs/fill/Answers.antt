-- The records written so far are the first ones of the walk.
use mathlib.Core.Path.{◌≡◌, refl, sym, ap, ◌∙◌}
use native.Mathlib.Omega.{arith}
use borrow.Author.Rules.{rules}
use Rattle.std.specs.Prelude.{None, Ok}
use Rattle.search.proofs.BlockLaws.{under_page}
use Rattle.scan.proofs.StandLaws.{held_some}
use Rattle.scan.proofs.FillWalk.{found_some, fill_none, fill_begins, fill_held, fill_room, fill_asks}
use Rattle.scan.proofs.FillWalk.{fill_not_none, fill_not_lost, fill_turns}
use Rattle.scan.proofs.fill.Goals as goal

pub returns-then-n-eq0 : goal.returns-then-n-eq0
returns-then-n-eq0 c = fill_none _ _ _ _ _ _ c.if-n-eq0.true

pub walk_from-next-requires : goal.walk_from-next-requires
walk_from-next-requires c =
    let p = c.requires in
    (p.0, λ e. (found_some p.0 _ _ _ (omega (arith, c.if-n-eq0.false)) p.2).0)

pub loop-next-init : goal.loop-next-init
loop-next-init c =
    let p = c.requires in
    (_, c.walk_from-next.ensures, fill_begins p.0 p.1 p.2 (omega (arith, c.if-n-eq0.false)) refl)

pub page_at-page-requires : goal.page_at-page-requires
page_at-page-requires c = under_page c.requires.0

pub overflow_sub-r : goal.overflow_sub-r
overflow_sub-r c =
    let h = held_some c.loop-next.invariant (c.in-Ok-Some.is ∙ ap Ok (rw c.in-Ok-Some.is at c.in-Ok-Some.field-0-is)) in
    omega (arith, (fill_held h.0).some)

pub copy_rows-requires : goal.copy_rows-requires
copy_rows-requires c =
    let h = held_some c.loop-next.invariant (c.in-Ok-Some.is ∙ ap Ok (rw c.in-Ok-Some.is at c.in-Ok-Some.field-0-is)) in
    fill_asks h.0 c.min-m.ensures c.page_at-page.ensures

pub returns-then-left-eq0 : goal.returns-then-left-eq0
returns-then-left-eq0 c =
    let h = held_some c.loop-next.invariant (c.in-Ok-Some.is ∙ ap Ok (rw c.in-Ok-Some.is at c.in-Ok-Some.field-0-is)) in
    (fill_turns h.0 c.min-m.ensures c.page_at-page.ensures (λ i. search rules) c.copy_rows.ensures c.words_of-words.ensures.0).ends c.if-left-eq0.true

pub advance-next-requires : goal.advance-next-requires
advance-next-requires c =
    let h = held_some c.loop-next.invariant (c.in-Ok-Some.is ∙ ap Ok (rw c.in-Ok-Some.is at c.in-Ok-Some.field-0-is)) in
    let t = fill_turns h.0 c.min-m.ensures c.page_at-page.ensures (λ i. search rules) c.copy_rows.ensures c.words_of-words.ensures.0 in
    (t.under, t.stands, λ e. t.goes c.if-left-eq0.false)

pub loop-next-smaller : goal.loop-next-smaller
loop-next-smaller c =
    let h = held_some c.loop-next.invariant (c.in-Ok-Some.is ∙ ap Ok (rw c.in-Ok-Some.is at c.in-Ok-Some.field-0-is)) in
    omega (arith, fill_room h.0 c.min-m.ensures)

pub loop-next-preserved : goal.loop-next-preserved
loop-next-preserved c =
    let h = held_some c.loop-next.invariant (c.in-Ok-Some.is ∙ ap Ok (rw c.in-Ok-Some.is at c.in-Ok-Some.field-0-is)) in
    let t = fill_turns h.0 c.min-m.ensures c.page_at-page.ensures (λ i. search rules) c.copy_rows.ensures c.words_of-words.ensures.0 in
    (_, c.advance-next.ensures, t.again c.if-left-eq0.false refl)

pub returns-in_default : goal.returns-in_default
returns-in_default c =
    let h = c.loop-next.invariant in
    let n : c.loop-next.next ≡ Ok None = search rules in
    absurd (fill_not_none h.2 (sym n ∙ h.1))

pub returns-in_default-2 : goal.returns-in_default-2
returns-in_default-2 c =
    let h = c.loop-next.invariant in
    absurd (fill_not_lost h.2 (sym c.in_default.is ∙ h.1))
