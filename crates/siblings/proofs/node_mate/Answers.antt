-- The turn of the definition that the code made.
use mathlib.Core.Path.{refl, sym, ap, ◌∙◌}
use mathlib.Core.Bool.{false≢true}
use Prim.Native.Nat.{◌<◌}
use native.Mathlib.Omega.{arith}
use lib.ListN.{length}
use Rattle.std.specs.Prelude.{Ok}
use Rattle.store.proofs.HeadLaws.{width_within}
use Rattle.search.specs.Descent.{step_of}
use Rattle.search.proofs.WayLaws.{answered_err, visit_ok, damage_passed}
use Rattle.siblings.proofs.MarkLaws.{passed_more}
use Rattle.siblings.proofs.NodeMateLaws.{beside_lost, beside_none, beside_unsound, beside_twice, beside_found}
use Rattle.siblings.proofs.OutcomeLaws.{err_told, sought_at}
use Rattle.siblings.proofs.node_mate.Goals as goal

pub returns-in_err-p : goal.returns-in_err-p
returns-in_err-p c =
    let q = c.in_err-p.was in
    rw (damage_passed _ c.from_residual.ensures.1 (err_told q c.seek.ensures.5)) (
      c.seek.ensures.0,
      (λ g e y. beside_lost _ _ _ _ _ g (sought_at _ _ _ _ q c.args.level g.reached e (c.seek.ensures.1 c.args.key g.reached c.sibling_key-other.ensures.0 y)) refl refl),
      λ o. absurd (false≢true o),
      c.seek.ensures.4,
      refl,
    )

pub returns-in_default : goal.returns-in_default
returns-in_default c =
    let q = c.in_ok-p.was ∙ ap Ok c.in_default.is in (
      c.seek.ensures.0,
      (λ g e y. beside_none _ _ _ _ _ g (sought_at _ _ _ _ q c.args.level g.reached e (c.seek.ensures.1 c.args.key g.reached c.sibling_key-other.ensures.0 y)) refl refl refl),
      λ o. absurd (false≢true o),
      c.seek.ensures.4,
      tt,
    )

pub mark_of-mark-requires : goal.mark_of-mark-requires
mark_of-mark-requires c = omega (arith, c.requires.2, width_within c.args.f)

pub returns-in_err-visit : goal.returns-in_err-visit
returns-in_err-visit c =
    let q = c.in_ok-p.was ∙ ap Ok c.in-Some.is in
    let h = answered_err _ _ (sym c.in_err-visit.was ∙ c.visit.ensures) in
    rw (damage_passed _ c.from_residual-in_err-visit.ensures.1 h.1) (
      c.seek.ensures.0,
      (λ g i y. beside_unsound _ _ _ _ _ g (sought_at _ _ _ _ q c.args.level g.reached i (c.seek.ensures.1 c.args.key g.reached c.sibling_key-other.ensures.0 y)) refl refl i c.requires.2
          c.sibling_key-other.ensures.0 refl h.0 refl),
      λ o. absurd (false≢true o),
      c.seek.ensures.4,
      refl,
    )

pub returns-then-not-note_node : goal.returns-then-not-note_node
returns-then-not-note_node c =
    let a = c.args in
    let q = c.in_ok-p.was ∙ ap Ok c.in-Some.is in
    let node = (rw q at c.seek.ensures.2) refl c.requires.4 in
    let e =
    visit_ok (step_of a.f a.store.now a.head c.sibling_key-other.result a.level c.in-Some.p a.used)
    (sym c.in_ok-visit.was ∙ c.visit.ensures) in
    let room : c.in-Some.p < length c.seek.new.marks =
    omega (arith, node.within, c.requires.6, c.seek.ensures.0) in (
      c.note_node.auto.marks ∙ c.seek.ensures.0,
      (λ g i y. beside_twice _ _ _ _ _ g (sought_at _ _ _ _ q c.args.level g.reached i (c.seek.ensures.1 c.args.key g.reached c.sibling_key-other.ensures.0 y)) refl refl i c.requires.2
          c.sibling_key-other.ensures.0 e refl c.mark_of-mark.ensures c.note_node.ensures.0 c.if-not-note_node.true refl _),
      λ o. absurd (false≢true o),
      passed_more a.f a.store.now a.head c.in-Some.p a.used a.used c.mark_of-mark.ensures c.seek.ensures.4 _ a.level e refl room c.note_node.ensures.1,
      refl,
    )

pub returns : goal.returns
returns c =
    let a = c.args in
    let q = c.in_ok-p.was ∙ ap Ok c.in-Some.is in
    let node = (rw q at c.seek.ensures.2) refl c.requires.4 in
    let e =
    visit_ok (step_of a.f a.store.now a.head c.sibling_key-other.result a.level c.in-Some.p a.used)
    (sym c.in_ok-visit.was ∙ c.visit.ensures) in
    let room : c.in-Some.p < length c.seek.new.marks =
    omega (arith, node.within, c.requires.6, c.seek.ensures.0) in (
      c.note_node.auto.marks ∙ c.seek.ensures.0,
      (λ g i y. beside_found _ _ _ _ _ g (sought_at _ _ _ _ q c.args.level g.reached i (c.seek.ensures.1 c.args.key g.reached c.sibling_key-other.ensures.0 y)) refl refl i c.requires.2
          c.sibling_key-other.ensures.0 e refl c.mark_of-mark.ensures c.note_node.ensures.0 c.if-not-note_node.false room c.note_node.ensures.1),
      (λ o. (
        node,
        ap (λ x. (step_of a.f a.store.now a.head x a.level c.in-Some.p a.used).ok) (sym c.sibling_key-other.ensures.0)
            ∙ ap (λ x. x.ok) (sym e),
      )),
      passed_more a.f a.store.now a.head c.in-Some.p a.used a.used c.mark_of-mark.ensures c.seek.ensures.4 _ a.level e refl room c.note_node.ensures.1,
      tt,
    )
