-- What is left to join from the stretch in hand is the whole.
use mathlib.Core.Path.{◌≡◌, refl, ap, ◌∙◌, subst}
use Prim.Native.Nat.{◌+◌, ◌≤◌, ◌<◌}
use native.Mathlib.Omega.{arith}
use lib.ListN.{length, take}
use Rattle.std.specs.Prelude.{Ok}
use Rattle.lists.specs.Lists.{All}
use Rattle.store.proofs.HeadLaws.{width_within}
use Rattle.search.proofs.WayLaws.{damage_passed}
use Rattle.siblings.specs.Pages.{Joinable, records_in}
use Rattle.siblings.proofs.PageJoinLaws.{joins_start, joins_out, joins_lost, joins_none, joins_full, joins_on, joinable_more, records_more}
use Rattle.siblings.proofs.OutcomeLaws.{err_told, page_mate_at}
use Rattle.siblings.proofs.join_pages.Goals as goal

pub loop-n-init : goal.loop-n-init
loop-n-init c =
    let p = c.requires in
    (p.3, (λ g o u e y. joins_start _ _ _ _ g _ _ _ _ o u e y (omega arith)), tt, omega arith, p.6)

pub page_mate-requires : goal.page_mate-requires
page_mate-requires c =
    let l = c.loop-n in
    let p = c.requires in
    (p.0, omega (arith, c.loop-n-test.true), omega (arith, p.1), p.2, omega (arith, l.auto.marks, p.4), l.invariant.4)

pub returns-in_err-mate : goal.returns-in_err-mate
returns-in_err-mate c =
    let l = c.loop-n in
    let q = c.in_err-mate.was in
    rw (damage_passed _ c.from_residual.ensures.1 (err_told q c.page_mate.ensures.6)) (
      c.page_mate.ensures.0 ∙ l.auto.marks,
      l.auto.mates,
      omega arith,
      (λ g o u e y.
          let j = l.invariant.1 g o u e y in
          joins_lost _ _ _ _ g _ _ _ _ _ j (omega (arith, c.loop-n-test.true)) (page_mate_at _ _ _ _ q (c.page_mate.ensures.2 j.hand j.used_is j.tracked)) refl 0),
      tt,
      omega (arith, c.requires.3),
      c.page_mate.ensures.5,
      refl,
    )

pub returns-in_default : goal.returns-in_default
returns-in_default c =
    let l = c.loop-n in
    let q = c.in_ok-mate.was ∙ ap Ok c.in_default.is in (
      c.page_mate.ensures.0 ∙ l.auto.marks,
      l.auto.mates,
      omega (arith, c.loop-n-test.true),
      (λ g o u e y.
          let j = l.invariant.1 g o u e y in
          joins_none _ _ _ _ g _ _ _ _ _ j (omega (arith, c.loop-n-test.true)) (page_mate_at _ _ _ _ q (c.page_mate.ensures.2 j.hand j.used_is j.tracked)) refl refl),
      l.invariant.2,
      omega (arith, l.invariant.3, l.invariant.0),
      c.page_mate.ensures.5,
      tt,
    )

pub overflow_add-held : goal.overflow_add-held
overflow_add-held c =
    let q = c.in_ok-mate.was ∙ ap Ok c.in-Some.is in
    let t = c.to_index-capacity.ensures in
    omega (arith, t.0, t.1, c.loop-n.invariant.0, rw q at c.page_mate.ensures.1)

pub returns-then-held-capacity : goal.returns-then-held-capacity
returns-then-held-capacity c =
    let l = c.loop-n in
    let q = c.in_ok-mate.was ∙ ap Ok c.in-Some.is in (
      c.page_mate.ensures.0 ∙ l.auto.marks,
      l.auto.mates,
      omega (arith, c.loop-n-test.true),
      (λ g o u e y.
          let j = l.invariant.1 g o u e y in
          joins_full _ _ _ _ g _ _ _ _ _ j (omega (arith, c.loop-n-test.true)) (page_mate_at _ _ _ _ q (c.page_mate.ensures.2 j.hand j.used_is j.tracked)) refl refl (omega (arith, c.if-held-capacity.true, c.to_index-capacity.ensures.0))),
      l.invariant.2,
      omega (arith, l.invariant.3, l.invariant.0),
      c.page_mate.ensures.5,
      tt,
    )

pub bounds-mates-n : goal.bounds-mates-n
bounds-mates-n c =
    let l = c.loop-n in
    omega (arith, c.loop-n-test.true, l.auto.mates, c.requires.1, c.requires.5, width_within c.args.f)

pub loop-n-preserved : goal.loop-n-preserved
loop-n-preserved c =
    let l = c.loop-n in
    let a = c.args in
    let q = c.in_ok-mate.was ∙ ap Ok c.in-Some.is in
    let p = c.in-Some.mate.pointer in
    let fits : l.held + c.in-Some.mate.count ≤ a.head.capacity = omega (arith, c.if-held-capacity.false, c.to_index-capacity.ensures.0) in
    let room : l.n < length l.mates =
    omega (arith, c.loop-n-test.true, l.auto.mates, c.requires.1, c.requires.5, width_within c.args.f) in (
      fits,
      (λ g o u e y.
          let j = l.invariant.1 g o u e y in
          joins_on _ _ _ _ g _ _ _ _ _ j (omega (arith, c.loop-n-test.true)) (page_mate_at _ _ _ _ q (c.page_mate.ensures.2 j.hand j.used_is j.tracked)) refl refl fits room refl (omega arith)),
      joinable_more _ _ _ l.n l.mates p room l.invariant.2 ((rw q at c.page_mate.ensures.3) refl),
      records_more _ _ _ l.n l.mates p room a.count l.invariant.3 ((rw q at c.page_mate.ensures.4) refl),
      c.page_mate.ensures.5,
    )

pub returns : goal.returns
returns c =
    let l = c.loop-n in
    let a = c.args in
    let z : l.n ≡ a.used = omega (arith, c.loop-n-test.false, l.auto.n-end) in (
      l.auto.marks,
      l.auto.mates,
      omega arith,
      (λ g o u e y. joins_out _ _ _ _ g _ _ _ _ _ (l.invariant.1 g o u e y) (omega (arith, z)) z),
      subst (λ i. All (Joinable a.f a.store.now a.head) (take i l.mates)) z l.invariant.2,
      subst (λ i. a.count + records_in a.f a.store.now a.head (take i l.mates) ≤ a.head.capacity) z
          (omega (arith, l.invariant.3, l.invariant.0)),
      l.invariant.4,
      tt,
    )
