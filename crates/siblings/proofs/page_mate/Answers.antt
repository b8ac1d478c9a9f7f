-- The turn of the definition that the code made.
use mathlib.Core.Path.{refl, sym, ap, ◌∙◌}
use mathlib.Core.Bool.{false≢true}
use native.Mathlib.Omega.{arith}
use Rattle.std.specs.Prelude.{Ok}
use Rattle.search.proofs.BlockLaws.{under_page}
use Rattle.search.proofs.WayLaws.{damage_passed}
use Rattle.siblings.proofs.PageLaws.{tested_rule, mate_lost, mate_none, mate_damaged, mate_found}
use Rattle.siblings.proofs.OutcomeLaws.{err_told, sought_at}
use Rattle.siblings.proofs.page_mate.Goals as goal

pub seek-requires : goal.seek-requires
seek-requires c = let p = c.requires in (p.0, p.2, omega arith, p.4, p.5)

pub returns-in_err-pointer : goal.returns-in_err-pointer
returns-in_err-pointer c =
    let q = c.in_err-pointer.was in
    rw (damage_passed _ c.from_residual.ensures.1 (err_told q c.seek.ensures.5)) (
      c.seek.ensures.0,
      omega arith,
      (λ g e y. mate_lost _ _ _ _ g (sought_at _ _ _ _ q 0 g.reached e (c.seek.ensures.1 c.args.key g.reached c.sibling_key-other.ensures.0 y)) refl refl),
      λ o. absurd (false≢true o),
      λ o. absurd (false≢true o),
      c.seek.ensures.4,
      refl,
    )

pub returns-in_default : goal.returns-in_default
returns-in_default c =
    let q = c.in_ok-pointer.was ∙ ap Ok c.in_default.is in (
      c.seek.ensures.0,
      omega arith,
      (λ g e y. mate_none _ _ _ _ g (sought_at _ _ _ _ q 0 g.reached e (c.seek.ensures.1 c.args.key g.reached c.sibling_key-other.ensures.0 y)) refl refl refl),
      λ o. absurd (false≢true o),
      λ o. absurd (false≢true o),
      c.seek.ensures.4,
      tt,
    )

pub own_ok-requires : goal.own_ok-requires
own_ok-requires c = let p = c.requires in ((under_page p.0).0, (under_page p.0).1, p.2)

pub returns-then-not-own_ok : goal.returns-then-not-own_ok
returns-then-not-own_ok c =
    let q = c.in_ok-pointer.was ∙ ap Ok c.in-Some.is in (
      c.seek.ensures.0,
      omega arith,
      (λ g e y. mate_damaged _ _ _ _ g (sought_at _ _ _ _ q 0 g.reached e (c.seek.ensures.1 c.args.key g.reached c.sibling_key-other.ensures.0 y)) refl refl e
          c.sibling_key-other.ensures.0 c.own_ok.ensures c.if-not-own_ok.true refl),
      λ o. absurd (false≢true o),
      λ o. absurd (false≢true o),
      c.seek.ensures.4,
      refl,
    )

pub count_at-count-requires : goal.count_at-count-requires
count_at-count-requires c =
    let u = under_page c.requires.0 in
    (u.0, u.1, tested_rule _ _ _ _ _ _ (sym c.own_ok.ensures ∙ c.if-not-own_ok.false))

pub returns : goal.returns
returns c =
    let q = c.in_ok-pointer.was ∙ ap Ok c.in-Some.is in (
      c.seek.ensures.0,
      c.count_at-count.ensures.1,
      (λ g e y. mate_found _ _ _ _ g (sought_at _ _ _ _ q 0 g.reached e (c.seek.ensures.1 c.args.key g.reached c.sibling_key-other.ensures.0 y)) refl refl e
          c.sibling_key-other.ensures.0 c.own_ok.ensures c.if-not-own_ok.false c.count_at-count.ensures.0),
      (λ o. record {
        taken = (rw q at c.seek.ensures.3) refl refl;
        rule = tested_rule _ _ _ _ _ _ (sym c.own_ok.ensures ∙ c.if-not-own_ok.false);
      }),
      (λ o. c.count_at-count.ensures.0),
      c.seek.ensures.4,
      tt,
    )
