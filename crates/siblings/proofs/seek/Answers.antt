-- What is left of the descent to the sibling is the whole.
use mathlib.Core.Path.{◌≡◌, refl, sym, ap, ◌∙◌}
use mathlib.Core.Bool.{false≢true}
use Prim.Native.Nat.{ℕ, ◌+◌, ◌-◌, ◌<◌}
use native.Mathlib.Omega.{arith}
use lib.ListN.{length}
use Rattle.store.proofs.HeadLaws.{width_within}
use Rattle.search.specs.Descent.{step_of}
use Rattle.search.proofs.BlockLaws.{under_levels, root_in_use}
use Rattle.search.proofs.DescentLaws.{seen_bits, seen_in_use}
use Rattle.search.proofs.WayLaws.{answered_err, visit_ok, damage_passed}
use Rattle.siblings.proofs.MarkLaws.{marked_sound, passed_more}
use Rattle.siblings.proofs.SeekLaws.{seen_page, seek_starts, seek_ends, going_lost, going_twice, going_far, going_near}
use Rattle.siblings.proofs.seek.Goals as goal

-- the level that a turn visits
one : (x y : ℕ) → x < y → y - 1 + 1 ≡ y
one x y h = omega arith

pub loop-below-init : goal.loop-below-init
loop-below-init c =
    let u = c.requires in (
      omega arith,
      u.2,
      λ l. root_in_use u.0,
      (λ low k rs e y. seek_starts _ _ _ _ _ low k rs _ y),
      (λ z. absurd (omega (arith, z, (under_levels u.0).0))),
      u.4,
    )

pub mark_of-mark-requires : goal.mark_of-mark-requires
mark_of-mark-requires c = omega (arith, c.loop-below.invariant.0, c.requires.1, width_within c.args.f)

pub visit-requires : goal.visit-requires
visit-requires c =
    let l = c.loop-below in
    let a = c.args in
    let p = c.requires in (
      p.0,
      l.invariant.2 (omega (arith, c.loop-below-test.true)),
      omega (arith, l.invariant.0, p.1),
      omega (arith, l.auto.marks, p.3),
      marked_sound a.f a.store.now a.head l.node l.used a.m c.mark_of-mark.ensures l.invariant.5,
    )

pub returns-in_err-v : goal.returns-in_err-v
returns-in_err-v c =
    let a = c.args in
    let l = c.loop-below in
    let low = c.requires.1 in
    let h = answered_err _ _ (sym c.in_err-v.was ∙ c.visit.ensures) in
    rw (damage_passed _ c.from_residual.ensures.1 h.1) (
      l.auto.marks,
      going_lost _ _ _ _ _ _ low _ l.invariant.0 c.loop-below-test.true (l.invariant.3 low)
          (ap (λ (x : ℕ). step_of a.f a.store.now a.head a.key x l.node l.used) (one a.target l.below c.loop-below-test.true)) h.0 refl,
      λ o. absurd (false≢true o),
      λ o. absurd (false≢true o),
      l.invariant.5,
      refl,
    )

pub note_node-requires : goal.note_node-requires
note_node-requires c =
    let l = c.loop-below in
    omega (arith, (l.invariant.2 (omega (arith, c.loop-below-test.true))).within, c.requires.3, l.auto.marks)

pub returns-then-not-note_node : goal.returns-then-not-note_node
returns-then-not-note_node c =
    let a = c.args in
    let l = c.loop-below in
    let low = c.requires.1 in
    let e =
    visit_ok _ (sym c.in_ok-v.was ∙ c.visit.ensures)
    ∙ ap (λ (x : ℕ). step_of a.f a.store.now a.head a.key x l.node l.used) (one a.target l.below c.loop-below-test.true) in
    let room : l.node < length l.marks =
    omega (arith, (l.invariant.2 (omega (arith, c.loop-below-test.true))).within, c.requires.3, l.auto.marks) in (
      c.note_node.auto.marks ∙ l.auto.marks,
      going_twice _ _ _ _ _ _ low _ l.invariant.0 c.loop-below-test.true (l.invariant.3 low) e refl c.mark_of-mark.ensures
          c.note_node.ensures.0 c.if-not-note_node.true refl _,
      λ o. absurd (false≢true o),
      λ o. absurd (false≢true o),
      passed_more a.f a.store.now a.head l.node l.used a.m c.mark_of-mark.ensures l.invariant.5 a.key l.below e refl room c.note_node.ensures.1,
      refl,
    )

pub overflow_add-used : goal.overflow_add-used
overflow_add-used c =
    let a = c.args in
    let l = c.loop-below in
    let e =
    visit_ok _ (sym c.in_ok-v.was ∙ c.visit.ensures)
    ∙ ap (λ (x : ℕ). step_of a.f a.store.now a.head a.key x l.node l.used) (one a.target l.below c.loop-below-test.true) in
    omega (arith, width_within a.f, seen_bits _ _ _ _ l.below l.node l.used e refl)

pub returns-then-used-m : goal.returns-then-used-m
returns-then-used-m c =
    let a = c.args in
    let l = c.loop-below in
    let low = c.requires.1 in
    let e =
    visit_ok _ (sym c.in_ok-v.was ∙ c.visit.ensures)
    ∙ ap (λ (x : ℕ). step_of a.f a.store.now a.head a.key x l.node l.used) (one a.target l.below c.loop-below-test.true) in
    let room : l.node < length l.marks =
    omega (arith, (l.invariant.2 (omega (arith, c.loop-below-test.true))).within, c.requires.3, l.auto.marks) in (
      c.note_node.auto.marks ∙ l.auto.marks,
      going_far _ _ _ _ _ _ low _ l.invariant.0 c.loop-below-test.true (l.invariant.3 low) e refl c.mark_of-mark.ensures
          c.note_node.ensures.0 c.if-not-note_node.false room c.note_node.ensures.1 c.if-used-m.true refl,
      λ o. absurd (false≢true o),
      λ o. absurd (false≢true o),
      passed_more a.f a.store.now a.head l.node l.used a.m c.mark_of-mark.ensures l.invariant.5 a.key l.below e refl room c.note_node.ensures.1,
      tt,
    )

pub loop-below-preserved : goal.loop-below-preserved
loop-below-preserved c =
    let a = c.args in
    let l = c.loop-below in
    let e =
    visit_ok _ (sym c.in_ok-v.was ∙ c.visit.ensures)
    ∙ ap (λ (x : ℕ). step_of a.f a.store.now a.head a.key x l.node l.used) (one a.target l.below c.loop-below-test.true) in
    let room : l.node < length l.marks =
    omega (arith, (l.invariant.2 (omega (arith, c.loop-below-test.true))).within, c.requires.3, l.auto.marks) in
    let up = c.loop-below-test.true in
    let near = c.if-used-m.false in (
      near,
      omega (arith, up),
      λ more. seen_in_use _ _ _ _ l.below l.node l.used e refl (omega (arith, more)),
      (λ low. going_near _ _ _ _ _ _ low _ l.invariant.0 up (l.invariant.3 low) e refl c.mark_of-mark.ensures
          c.note_node.ensures.0 c.if-not-note_node.false room c.note_node.ensures.1 near),
      (λ z. seen_page _ _ _ _ l.below l.node l.used e refl (omega (arith, z, up))),
      passed_more a.f a.store.now a.head l.node l.used a.m c.mark_of-mark.ensures l.invariant.5 a.key l.below e refl room c.note_node.ensures.1,
    )

pub returns : goal.returns
returns c =
    let l = c.loop-below in
    let low = c.requires.1 in (
      l.auto.marks,
      (λ k rs e y. seek_ends _ _ _ _ _ low k rs _ _ _ _ (omega (arith, c.loop-below-test.false)) (l.invariant.3 low k rs e y)),
      (λ o some. l.invariant.2 (omega (arith, some, l.invariant.1))),
      (λ o z. l.invariant.4 (omega (arith, z, c.loop-below-test.false))),
      l.invariant.5,
      tt,
    )
