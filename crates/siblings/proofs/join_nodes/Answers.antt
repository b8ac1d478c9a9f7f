-- What is left to join from the node in hand is the whole.
use mathlib.Core.Path.{◌≡◌, refl, ap, ◌∙◌, subst}
use mathlib.Core.Bool.{false≢true}
use Prim.Native.Nat.{◌+◌, ◌-◌, ◌<◌}
use native.Mathlib.Omega.{arith}
use lib.ListN.{length}
use Rattle.std.specs.Prelude.{Ok}
use Rattle.search.proofs.WayLaws.{damage_passed}
use Rattle.siblings.specs.Nodes.{HandFine}
use Rattle.siblings.proofs.NodeJoinLaws.{sibling_fine, noding_start, noding_out, noding_lost, noding_none, noding_on}
use Rattle.siblings.proofs.OutcomeLaws.{err_told, decided_at}
use Rattle.siblings.proofs.join_nodes.Goals as goal

pub loop-n-init : goal.loop-n-init
loop-n-init c =
    let p = c.requires in
    let a = c.args in (
      subst (λ i. HandFine a.f a.head.theta a.m i a.hand.now) (let e : a.used ≡ a.used - 0 = omega arith in e) p.8,
      (λ g o e r y. noding_start _ _ _ _ _ _ _ g _ _ _ _ _ _ o e r y (omega arith) (omega arith)),
      p.11,
    )

pub node_turn-requires : goal.node_turn-requires
node_turn-requires c =
    let l = c.loop-n in
    let p = c.requires in
    (p.0, omega (arith, c.loop-n-test.true), omega (arith, p.1), p.2, p.3, p.4, omega (arith, l.auto.marks, p.5), l.auto.hand ∙ p.6, l.invariant.2)

pub returns-in_err-p : goal.returns-in_err-p
returns-in_err-p c =
    let q = c.in_err-p.was in
    rw (damage_passed _ c.from_residual.ensures.1 (err_told q c.node_turn.ensures.4)) (
      (λ g o e r y.
          let n = c.loop-n.invariant.1 g o e r y in
          noding_lost _ _ _ _ _ _ _ _ _ _ _ _ _ _ _ _ _ n (omega (arith, c.loop-n-test.true)) (decided_at _ _ _ _ q (c.node_turn.ensures.1 n.now_in n.spot n.tracked)) refl refl _ _),
      (λ o. absurd (false≢true o)),
      c.node_turn.ensures.3,
      refl,
    )

pub returns-in_default : goal.returns-in_default
returns-in_default c =
    let q = c.in_ok-p.was ∙ ap Ok c.in_default.is in (
      (λ g o e r y.
          let n = c.loop-n.invariant.1 g o e r y in
          noding_none _ _ _ _ _ _ _ _ _ _ _ _ _ _ _ _ _ n (omega (arith, c.loop-n-test.true)) (decided_at _ _ _ _ q (c.node_turn.ensures.1 n.now_in n.spot n.tracked)) refl refl),
      (λ o. omega (arith, c.loop-n-test.true)),
      c.node_turn.ensures.3,
      tt,
    )

pub join_hand-requires : goal.join_hand-requires
join_hand-requires c =
    let l = c.loop-n in
    let p = c.requires in
    let q = c.in_ok-p.was ∙ ap Ok c.in-Some.is in
    let u = (rw q at c.node_turn.ensures.2) refl in
    let b = sibling_fine _ _ _ _ _ _ _ c.requires.0 u.0 u.1 in (
      p.0,
      u.0,
      l.auto.hand ∙ p.6,
      l.auto.spare ∙ p.7,
      l.invariant.0.shallow,
      b.0,
      u.2,
      p.2,
      omega (arith, c.loop-n-test.true, b.1, l.invariant.0.left),
      omega (arith, c.loop-n-test.true, l.invariant.0.reaches),
    )

pub loop-n-preserved : goal.loop-n-preserved
loop-n-preserved c =
    let l = c.loop-n in
    let p = c.requires in
    let a = c.args in
    let q = c.in_ok-p.was ∙ ap Ok c.in-Some.is in
    let room : a.at + l.n < length l.gone = omega (arith, c.loop-n-test.true, l.auto.gone, p.9) in (
      subst (λ i. HandFine a.f a.head.theta a.m i c.join_hand.new.hand)
          (let e : a.used - l.n - 1 ≡ a.used - (l.n + 1) = omega arith in e) c.join_hand.ensures.1,
      (λ g o e r y.
          let n = l.invariant.1 g o e r y in
          noding_on _ _ _ _ _ _ _ _ _ _ _ _ _ _ _ _ _ n (omega (arith, c.loop-n-test.true)) (decided_at _ _ _ _ q (c.node_turn.ensures.1 n.now_in n.spot n.tracked)) refl refl p.0.head
          c.on_left-side.ensures c.pick-number.ensures c.pick-last.ensures c.pick.ensures c.join_hand.ensures.0 room refl (omega arith) (omega arith)),
      c.node_turn.ensures.3,
    )

pub returns : goal.returns
returns c =
    let l = c.loop-n in
    let z : l.n ≡ c.args.used = omega (arith, c.loop-n-test.false, l.auto.n-end) in (
      (λ g o e r y. noding_out _ _ _ _ _ _ _ _ _ _ _ _ _ _ _ _ _ (l.invariant.1 g o e r y) (omega (arith, z)) (omega (arith, z))),
      (λ o. omega arith),
      l.invariant.2,
      tt,
    )
