-- The levels done, with the definition of the rest, are the whole.
use mathlib.Core.Path.{◌≡◌, refl, sym, ap, ◌∙◌, subst}
use Prim.Native.Nat.{◌+◌, ◌*◌, ◌≤◌, ◌<◌}
use native.Mathlib.Omega.{arith}
use lib.Dec.{ltb}
use lib.ListN.{length, take}
use lib.Seq.{length-take-le, get_or-take}
use borrow.Author.Tests.{not-true, not-false}
use Rattle.store.specs.Format.{width}
use Rattle.search.specs.declared.Step.{Step}
use Rattle.search.specs.Descent.{no_step}
use Rattle.search.proofs.WayLaws.{damage_passed}
use Rattle.siblings.proofs.OutcomeLaws.{err_told}
use Rattle.levels.proofs.PathFacts.{below_next, path_fine}
use Rattle.levels.proofs.LevelLaws.{turned_at, rising_start, rising_lost, rising_on, rising_stays, rising_out, levelled_lost, path_stays, numbers_above, numbers_taken, ends_on, ends_in}
use Rattle.levels.proofs.join_levels.Goals as goal

pub path_numbers-requires : goal.path_numbers-requires
path_numbers-requires c =
    let y = path_fine c.args.f c.args.store.now c.args.head c.args.key c.requires.0 c.requires.2 c.requires.3 c.requires.4 in
    omega (arith, length-take-le c.args.head.levels c.args.steps (omega (arith, y.few, y.long)), c.requires.6)

pub loop-l-init : goal.loop-l-init
loop-l-init c =
    let a = c.args in
    let fine = path_fine a.f a.store.now a.head a.key c.requires.0 c.requires.2 c.requires.3 c.requires.4 in
    let long = length-take-le a.head.levels a.steps (omega (arith, fine.few, fine.long)) in (
      omega arith,
      c.requires.5,
      λ j p q. c.path_numbers.ensures j (omega (arith, q, long)) ∙ ap (λ (t : Step). t.node) (get_or-take a.head.levels a.steps j no_step q),
      (λ rs y. rising_start a.f a.store.now a.head a.key (take a.head.levels a.steps) a.m a.q (ltb a.m a.used) _ _ _ _ rs refl y),
      c.requires.12,
    )

pub bounds-steps-l : goal.bounds-steps-l
bounds-steps-l c =
    let y = path_fine c.args.f c.args.store.now c.args.head c.args.key c.requires.0 c.requires.2 c.requires.3 c.requires.4 in
    omega (arith, c.loop-l-test.true, y.few)

pub level_turn-requires : goal.level_turn-requires
level_turn-requires c =
    let a = c.args in
    let l = c.loop-l in
    let inside : l.l < a.head.levels = omega (arith, c.loop-l-test.true) in
    let fine = path_fine c.args.f c.args.store.now c.args.head c.args.key c.requires.0 c.requires.2 c.requires.3 c.requires.4 in
    let y = fine.step l.l inside in
    let p = c.requires in (
      p.0,
      y.node_in,
      y.within,
      p.1,
      inside,
      omega (arith, inside, l.auto.numbers, c.path_numbers.auto.numbers, p.6),
      omega (arith, inside, l.auto.blocks, p.7),
      l.auto.spare ∙ p.8,
      omega (arith, l.auto.marks, p.9),
      y.fine l.w.bits l.invariant.1,
      omega (arith, ends_in (width a.f) l.l a.head.levels l.w.end _ inside l.invariant.0 y.within, l.auto.gone, p.10),
      omega (arith, l.auto.gone, p.11),
      l.invariant.4,
    )

pub returns-in_err-w : goal.returns-in_err-w
returns-in_err-w c =
    let a = c.args in
    let l = c.loop-l in
    let inside : l.l < a.head.levels = omega (arith, c.loop-l-test.true) in
    let fine = path_fine c.args.f c.args.store.now c.args.head c.args.key c.requires.0 c.requires.2 c.requires.3 c.requires.4 in
    let q = c.in_err-w.was in
    let here = sym (get_or-take a.head.levels a.steps l.l no_step inside) in
    let in_path : l.l < length (take a.head.levels a.steps) =
    omega (arith, inside, length-take-le a.head.levels a.steps (omega (arith, fine.few, fine.long))) in
    rw (damage_passed _ c.from_residual.ensures.1 (err_told q c.level_turn.ensures.4)) (
      (λ rs y.
          let z = l.invariant.3 rs y in
          levelled_lost a.store.now a.head (take a.head.levels a.steps) _ _ _ _ _ refl
          (rising_lost z in_path here (turned_at q (c.level_turn.ensures.0 z.reaches z.tracked)) refl)),
      tt,
      refl,
    )

pub returns-then-not-w : goal.returns-then-not-w
returns-then-not-w c =
    let a = c.args in
    let l = c.loop-l in
    let inside : l.l < a.head.levels = omega (arith, c.loop-l-test.true) in
    let fine = path_fine c.args.f c.args.store.now c.args.head c.args.key c.requires.0 c.requires.2 c.requires.3 c.requires.4 in
    let q = c.in_ok-w.was in
    let v = rw q at c.level_turn.ensures.1 in
    let here = sym (get_or-take a.head.levels a.steps l.l no_step inside) in
    let in_path : l.l < length (take a.head.levels a.steps) =
    omega (arith, inside, length-take-le a.head.levels a.steps (omega (arith, fine.few, fine.long))) in
    let in_numbers : l.l < length l.numbers = omega (arith, inside, l.auto.numbers, c.path_numbers.auto.numbers, c.requires.6) in
    let within = (fine.step l.l inside).within in
    let above = numbers_above a.steps a.head.levels l.l c.in_ok-w.w.pointer l.numbers v.2 l.invariant.2 in
    let end = ends_in (width a.f) l.l a.head.levels l.w.end _ inside l.invariant.0 within in (
      (λ rs y.
          let z = l.invariant.3 rs y in
          rising_stays z in_path here (turned_at q (c.level_turn.ensures.0 z.reaches z.tracked)) v.2 in_numbers c.level_turn.ensures.2 refl
          (sym v.0 ∙ not-true _ c.if-not-w.true) (length-take-le a.head.levels a.steps (omega (arith, fine.few, fine.long)))
          (numbers_taken a.steps a.head.levels l.l c.level_turn.new.numbers above)),
      (
        omega arith,
        omega (arith, inside),
        omega (arith, end, v.1),
        omega (arith, end, v.1, c.requires.10),
        path_stays a.f a.store.now a.head a.steps a.used (l.l + 1) c.level_turn.new.numbers fine above,
      ),
      tt,
    )

pub loop-l-preserved : goal.loop-l-preserved
loop-l-preserved c =
    let a = c.args in
    let l = c.loop-l in
    let inside : l.l < a.head.levels = omega (arith, c.loop-l-test.true) in
    let fine = path_fine c.args.f c.args.store.now c.args.head c.args.key c.requires.0 c.requires.2 c.requires.3 c.requires.4 in
    let q = c.in_ok-w.was in
    let v = rw q at c.level_turn.ensures.1 in
    let here = sym (get_or-take a.head.levels a.steps l.l no_step inside) in
    let in_path : l.l < length (take a.head.levels a.steps) =
    omega (arith, inside, length-take-le a.head.levels a.steps (omega (arith, fine.few, fine.long))) in
    let in_numbers : l.l < length l.numbers = omega (arith, inside, l.auto.numbers, c.path_numbers.auto.numbers, c.requires.6) in
    let within = (fine.step l.l inside).within in
    let above = numbers_above a.steps a.head.levels l.l c.in_ok-w.w.pointer l.numbers v.2 l.invariant.2 in
    let fell = sym v.0 ∙ not-false _ c.if-not-w.false in (
      ends_on (width a.f) l.l l.w.end c.in_ok-w.w.end c.in_ok-w.w.bits _ l.invariant.0 within v.1,
      below_next a.used a.steps l.l c.in_ok-w.w.bits fell,
      above,
      (λ rs y.
          let z = l.invariant.3 rs y in
          rising_on z in_path here (turned_at q (c.level_turn.ensures.0 z.reaches z.tracked)) v.2 in_numbers c.level_turn.ensures.2 refl fell
          (not-false _ c.if-not-w.false)),
      c.level_turn.ensures.3,
    )

pub returns : goal.returns
returns c =
    let a = c.args in
    let l = c.loop-l in
    let y = path_fine c.args.f c.args.store.now c.args.head c.args.key c.requires.0 c.requires.2 c.requires.3 c.requires.4 in
    let top : a.head.levels ≡ l.l = omega (arith, l.auto.l-end, c.loop-l-test.false) in
    let end = subst (λ n. l.w.end ≤ width a.f * n) (sym top) l.invariant.0 in (
      (λ rs z.
          rising_out (l.invariant.3 rs z) (length-take-le a.head.levels a.steps (omega (arith, y.few, y.long))) top
          (omega (arith, top, y.some))),
      (
        omega (arith, y.some),
        omega arith,
        end,
        omega (arith, end, c.requires.10),
        λ j p q. absurd (omega (arith, p, q)),
      ),
      tt,
    )

pub slice_bounds-path_numbers-end : goal.slice_bounds-path_numbers-end
slice_bounds-path_numbers-end c =
    let y = path_fine c.args.f c.args.store.now c.args.head c.args.key c.requires.0 c.requires.2 c.requires.3 c.requires.4 in
    sym (length-take-le c.args.head.levels c.args.steps (omega (arith, y.few, y.long)))

pub slice_bounds-steps-end : goal.slice_bounds-steps-end
slice_bounds-steps-end c =
    let y = path_fine c.args.f c.args.store.now c.args.head c.args.key c.requires.0 c.requires.2 c.requires.3 c.requires.4 in
    omega (arith, y.few, y.long)
