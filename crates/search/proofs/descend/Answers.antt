-- What is left of the way, from the node and the level that the loop has reached, is the whole way.
use mathlib.Core.Path.{◌≡◌, refl, sym, ap, ◌∙◌}
use Prim.Native.Nat.{ℕ, ◌+◌, ◌-◌, ◌≤◌}
use native.Mathlib.Omega.{arith}
use Rattle.store.proofs.HeadLaws.{width_within}
use Rattle.search.specs.Way.{descent_result}
use Rattle.search.specs.Descent.{no_steps, lost, step_taken, step_of, descent}
use Rattle.search.proofs.BlockLaws.{under_levels, root_in_use}
use Rattle.search.proofs.DescentLaws.{seen_bits, seen_in_use, turn_visited, turn_lost, turn_on, turn_out}
use Rattle.search.proofs.WayLaws.{answered_err, visit_ok, damage_passed}
use Rattle.search.proofs.descend.Goals as goal

-- the level that a turn visits
one : (x : ℕ) → 1 ≤ x → x - 1 + 1 ≡ x
one x h = omega arith

pub loop-below-init : goal.loop-below-init
unfolding descent no_steps
loop-below-init c =
    let u = c.requires.0 in
    let l = under_levels u in
    (omega (arith, l.1), omega arith, λ z. root_in_use u, refl)

pub visit_node-requires : goal.visit_node-requires
visit_node-requires c =
    let a = c.args in
    let l = c.loop-below in
    let p = c.requires in
    let t : 1 ≤ l.below = omega arith in (
      p.0,
      l.invariant.2 (omega arith),
      l.invariant.1,
      λ z.
          turn_visited a.f a.store.now a.head a.key l.below l.node l.used l.steps _
          (ap (λ (x : ℕ). step_of a.f a.store.now a.head a.key x l.node l.used) (one l.below t)) t _ l.invariant.3 (p.1 z),
    )

pub returns-in_err-v : goal.returns-in_err-v
unfolding lost
returns-in_err-v c =
    let a = c.args in
    let l = c.loop-below in
    let t : 1 ≤ l.below = omega arith in
    let h = answered_err _ _ (sym c.in_err-v.was ∙ c.visit_node.ensures) in
    let e =
    turn_lost a.f a.store.now a.head a.key l.below l.node l.used l.steps _
    (ap (λ (x : ℕ). step_of a.f a.store.now a.head a.key x l.node l.used) (one l.below t)) t _ l.invariant.3 h.0 in
    (damage_passed _ c.from_residual.ensures.1 h.1 ∙ ap descent_result e, rw (← e) (omega arith))

pub overflow_add-used : goal.overflow_add-used
overflow_add-used c =
    let l = c.loop-below in
    let e = visit_ok (step_of c.args.f c.args.store.now c.args.head c.args.key (l.below - 1 + 1) l.node l.used)
    (sym c.in_ok-v.was ∙ c.visit_node.ensures) in
    omega (arith, width_within c.args.f, seen_bits _ _ _ _ _ l.node l.used e refl)

pub loop-below-preserved : goal.loop-below-preserved
unfolding step_taken
loop-below-preserved c =
    let a = c.args in
    let l = c.loop-below in
    let t : 1 ≤ l.below = omega arith in
    let e =
    visit_ok _ (sym c.in_ok-v.was ∙ c.visit_node.ensures)
    ∙ ap (λ (x : ℕ). step_of a.f a.store.now a.head a.key x l.node l.used) (one l.below t) in (
      omega arith,
      seen_bits _ _ _ _ _ l.node l.used e refl,
      λ z. seen_in_use _ _ _ _ _ l.node l.used e refl (omega arith),
      turn_on _ _ _ _ l.below l.node l.used l.steps _ e t _ l.invariant.3 refl,
    )

pub returns : goal.returns
returns c =
    let l = c.loop-below in
    let e = turn_out _ _ _ _ l.below l.node l.used l.steps (omega arith) _ l.invariant.3 in
    (ap descent_result e, rw (← e) l.invariant.1)
