-- What is left of the way to the terminal node is the whole way.
use mathlib.Core.Path.{◌≡◌, refl, sym, ap, ◌∙◌}
use Prim.Native.Nat.{ℕ, ◌+◌, ◌-◌, ◌<◌}
use native.Mathlib.Omega.{arith}
use Rattle.store.proofs.HeadLaws.{width_within}
use Rattle.search.specs.Way.{terminal_result}
use Rattle.search.specs.Descent.{lost_terminal, step_of, terminal}
use Rattle.search.proofs.BlockLaws.{under_levels, root_in_use}
use Rattle.search.proofs.DescentLaws.{seen_bits, seen_in_use, way_lost, way_on, way_visited, way_sound, way_unsound, way_ends}
use Rattle.search.proofs.WayLaws.{answered_err, visit_ok, damage_passed}
use Rattle.search.proofs.terminal_of.Goals as goal

-- the level that a turn visits
one : (x : ℕ) → 1 < x → x - 1 + 1 ≡ x
one x h = omega arith

pub loop-below-init : goal.loop-below-init
unfolding terminal
loop-below-init c = let u = c.requires.0 in ((under_levels u).0, omega arith, root_in_use u, refl)

pub visit_node-requires : goal.visit_node-requires
visit_node-requires c =
    let a = c.args in
    let l = c.loop-below in
    let p = c.requires in
    let t : 1 < l.below = omega arith in (
      p.0,
      l.invariant.2,
      l.invariant.1,
      λ z.
          way_visited a.f a.store.now a.head a.key l.below l.node l.used _ l.invariant.3 _
          (ap (λ (x : ℕ). step_of a.f a.store.now a.head a.key x l.node l.used) (one l.below t)) t (p.1 z),
    )

pub returns-in_err-v : goal.returns-in_err-v
unfolding lost_terminal
returns-in_err-v c =
    let a = c.args in
    let l = c.loop-below in
    let t : 1 < l.below = omega arith in
    let h = answered_err _ _ (sym c.in_err-v.was ∙ c.visit_node.ensures) in
    damage_passed _ c.from_residual.ensures.1 h.1
    ∙ ap terminal_result
    (way_lost a.f a.store.now a.head a.key l.below l.node l.used _ l.invariant.3 _
    (ap (λ (x : ℕ). step_of a.f a.store.now a.head a.key x l.node l.used) (one l.below t)) t h.0)

pub overflow_add-used : goal.overflow_add-used
overflow_add-used c =
    let l = c.loop-below in
    let e = visit_ok (step_of c.args.f c.args.store.now c.args.head c.args.key (l.below - 1 + 1) l.node l.used)
    (sym c.in_ok-v.was ∙ c.visit_node.ensures) in
    omega (arith, width_within c.args.f, seen_bits _ _ _ _ _ l.node l.used e refl)

pub loop-below-preserved : goal.loop-below-preserved
loop-below-preserved c =
    let a = c.args in
    let l = c.loop-below in
    let t : 1 < l.below = omega arith in
    let e =
    visit_ok _ (sym c.in_ok-v.was ∙ c.visit_node.ensures)
    ∙ ap (λ (x : ℕ). step_of a.f a.store.now a.head a.key x l.node l.used) (one l.below t) in (
      omega arith,
      seen_bits _ _ _ _ _ l.node l.used e refl,
      seen_in_use _ _ _ _ _ l.node l.used e refl t,
      way_on _ _ _ _ l.below l.node l.used _ l.invariant.3 _ e t refl,
    )

pub passes-requires : goal.passes-requires
passes-requires c =
    let l = c.loop-below in
    let p = c.requires in
    (p.0, l.invariant.2, l.invariant.1, λ z. way_ends _ _ _ _ l.below l.node l.used _ l.invariant.3 (omega arith) (p.1 z))

pub returns-then-not-passes : goal.returns-then-not-passes
unfolding lost_terminal
returns-then-not-passes c =
    let l = c.loop-below in
    ap terminal_result
    (way_unsound _ _ _ _ l.below l.node l.used _ l.invariant.3 (omega arith) (sym c.passes.ensures ∙ c.if-not-passes.true))

pub returns : goal.returns
returns c =
    let l = c.loop-below in
    ap terminal_result
    (way_sound _ _ _ _ l.below l.node l.used _ l.invariant.3 (omega arith) (sym c.passes.ensures ∙ c.if-not-passes.false))
