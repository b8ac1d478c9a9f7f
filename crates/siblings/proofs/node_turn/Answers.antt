-- The turn of the definition that the code made.
use mathlib.Core.Path.{refl, ap, ◌∙◌}
use mathlib.Core.Bool.{false≢true}
use native.Mathlib.Omega.{arith}
use Rattle.std.specs.Prelude.{Ok}
use Rattle.node.specs.Node.{depth_word}
use Rattle.search.proofs.BlockLaws.{under_node, block_words}
use Rattle.search.proofs.WayLaws.{damage_passed}
use Rattle.split.proofs.ValueLaws.{four_words}
use Rattle.remove.specs.Remove.{Spot}
use Rattle.siblings.proofs.TurnLaws.{decided_lost, decided_none, decided_tall, decided_apart, decided_on}
use Rattle.siblings.proofs.OutcomeLaws.{err_told, mated_at}
use Rattle.siblings.proofs.node_turn.Goals as goal

pub returns-in_err-p : goal.returns-in_err-p
returns-in_err-p c =
    let q = c.in_err-p.was in
    rw (damage_passed _ c.from_residual.ensures.1 (err_told q c.node_mate.ensures.4)) (
      c.node_mate.ensures.0,
      (λ g e y. decided_lost _ _ _ _ _ g (mated_at _ _ _ _ q (c.node_mate.ensures.1 g (ap (λ (x : Spot). x.used) e) y)) refl refl),
      λ o. absurd (false≢true o),
      c.node_mate.ensures.3,
      refl,
    )

pub returns-in_default : goal.returns-in_default
returns-in_default c =
    let q = c.in_ok-p.was ∙ ap Ok c.in_default.is in (
      c.node_mate.ensures.0,
      (λ g e y. decided_none _ _ _ _ _ g (mated_at _ _ _ _ q (c.node_mate.ensures.1 g (ap (λ (x : Spot). x.used) e) y)) refl refl refl),
      λ o. absurd (false≢true o),
      c.node_mate.ensures.3,
      tt,
    )

pub bounds-hand-0 : goal.bounds-hand-0
bounds-hand-0 c = omega (arith, c.requires.7, four_words c.args.head.theta)

pub bounds-node-0 : goal.bounds-node-0
bounds-node-0 c =
    let q = c.in_ok-p.was ∙ ap Ok c.in-Some.is in
    omega (arith, block_words c.requires.0 ((rw q at c.node_mate.ensures.2) refl).0 c.node_at-node.ensures)

pub returns-then-deeper-head : goal.returns-then-deeper-head
returns-then-deeper-head c =
    let q = c.in_ok-p.was ∙ ap Ok c.in-Some.is in (
      c.node_mate.ensures.0,
      (λ g e y. decided_tall _ _ _ _ _ g (mated_at _ _ _ _ q (c.node_mate.ensures.1 g (ap (λ (x : Spot). x.used) e) y)) refl refl c.requires.0.head e
          c.node_at-node.ensures c.max-deeper.ensures c.if-deeper-head.true refl),
      λ o. absurd (false≢true o),
      c.node_mate.ensures.3,
      tt,
    )

pub may_join-requires : goal.may_join-requires
may_join-requires c = (under_node c.requires.0).0

pub returns-then-not-may_join : goal.returns-then-not-may_join
returns-then-not-may_join c =
    let q = c.in_ok-p.was ∙ ap Ok c.in-Some.is in (
      c.node_mate.ensures.0,
      (λ g e y. decided_apart _ _ _ _ _ g (mated_at _ _ _ _ q (c.node_mate.ensures.1 g (ap (λ (x : Spot). x.used) e) y)) refl refl c.requires.0.head e
          c.node_at-node.ensures c.max-deeper.ensures c.if-deeper-head.false c.on_left-left.ensures c.may_join.ensures
          c.if-not-may_join.true refl),
      λ o. absurd (false≢true o),
      c.node_mate.ensures.3,
      refl,
    )

pub returns : goal.returns
returns c =
    let q = c.in_ok-p.was ∙ ap Ok c.in-Some.is in
    let u = (rw q at c.node_mate.ensures.2) refl in (
      c.node_mate.ensures.0,
      (λ g e y. decided_on _ _ _ _ _ g (mated_at _ _ _ _ q (c.node_mate.ensures.1 g (ap (λ (x : Spot). x.used) e) y)) refl refl c.requires.0.head e
          c.node_at-node.ensures c.max-deeper.ensures c.if-deeper-head.false c.on_left-left.ensures c.may_join.ensures
          c.if-not-may_join.false),
      (λ o. (u.0, u.1, omega (arith, c.if-deeper-head.false, c.max-deeper.ensures, ap (λ x. depth_word x 0) c.node_at-node.ensures))),
      c.node_mate.ensures.3,
      tt,
    )
