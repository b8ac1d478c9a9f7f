-- What the way from where the loop stands leads to is what the whole way leads to.
use mathlib.Core.Path.{◌≡◌, refl, sym, ap, ◌∙◌}
use native.Mathlib.Omega.{arith}
use Rattle.std.specs.Prelude.{Ok}
use Rattle.store.proofs.Places.{under_limits, under_counts}
use Rattle.search.specs.Way.{reached_result}
use Rattle.search.proofs.NextLaws.{hop_ends, hop_onward, reach_spent, turn_ends, turn_on, turn_node}
use Rattle.search.proofs.ReachLaws.{turn_sound}
use Rattle.search.proofs.WayLaws.{damage_passed, onward_next, onward_end, onward_lost}
use Rattle.search.proofs.reach_from.Goals as goal

pub overflow_step-left : goal.overflow_step-left
overflow_step-left c = let u = c.requires.0 in omega (arith, (under_counts u).taken, (under_limits u).nodes)

pub loop-left-init : goal.loop-left-init
loop-left-init c = let p = c.requires in (p.2, p.1, refl)

pub pointer_from-p-requires : goal.pointer_from-p-requires
pointer_from-p-requires c = let l = c.loop-left.invariant in (c.requires.0, l.1, l.0)

pub returns-then-p-ne0 : goal.returns-then-p-ne0
returns-then-p-ne0 c =
    let l = c.loop-left in
    ap reached_result
    (turn_ends _ _ l.left _ _ (omega arith) (hop_ends _ _ _ _ _ c.pointer_from-p.ensures c.if-p-ne0.true) refl ∙ l.invariant.2)

pub go_on-requires : goal.go_on-requires
go_on-requires c =
    let r = c.requires in
    let l = c.loop-left in (
      r.0,
      l.invariant.1,
      λ q e.
          turn_sound _ _ l.left _ _ (omega arith) l.invariant.2 (r.3 q)
          (sym (hop_onward _ _ _ _ _ c.pointer_from-p.ensures c.if-p-ne0.false) ∙ e),
    )

pub returns-in_err-m : goal.returns-in_err-m
returns-in_err-m c =
    let l = c.loop-left in
    let h = onward_lost _ _ _ _ (sym c.in_err-m.was ∙ c.go_on.ensures) in
    damage_passed _ c.from_residual.ensures.1 h.1
    ∙ ap reached_result
    (turn_ends _ _ l.left _ _ (omega arith) (hop_onward _ _ _ _ _ c.pointer_from-p.ensures c.if-p-ne0.false) h.0 ∙ l.invariant.2)

pub returns-in_default : goal.returns-in_default
returns-in_default c =
    let l = c.loop-left in
    let h = onward_end _ _ _ _ (sym (c.in_ok-m.was ∙ ap Ok c.in_default.is) ∙ c.go_on.ensures) in
    ap reached_result
    (turn_ends _ _ l.left _ _ (omega arith) (hop_onward _ _ _ _ _ c.pointer_from-p.ensures c.if-p-ne0.false) h ∙ l.invariant.2)

pub loop-left-preserved : goal.loop-left-preserved
loop-left-preserved c =
    let l = c.loop-left in
    let e = hop_onward _ _ _ _ _ c.pointer_from-p.ensures c.if-p-ne0.false in
    let h = onward_next _ _ _ _ (sym (c.in_ok-m.was ∙ ap Ok c.in-Some.is) ∙ c.go_on.ensures) in (
      omega arith,
      turn_node _ _ l.left _ _ (omega arith) e l.invariant.1 h,
      turn_on _ _ l.left _ _ (omega arith) e h ∙ l.invariant.2,
    )

pub returns : goal.returns
returns c =
    let l = c.loop-left in
    let z : 0 ≡ l.left = omega arith in
    ap reached_result (reach_spent _ _ _ _ ∙ rw (sym z) at l.invariant.2)
