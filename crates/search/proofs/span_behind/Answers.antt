-- The way on from the run, and what it leads to.
use mathlib.Core.Path.{refl, sym, ap, subst, ◌∙◌}
use Prim.Native.Nat.{◌+◌}
use Rattle.std.specs.Prelude.{Ok}
use Rattle.search.specs.Way.{span_result}
use Rattle.search.specs.Span.{reached_span, no_span}
use Rattle.search.proofs.NextLaws.{Some, reach_some}
use Rattle.search.proofs.SpanLaws.{reached_past, reached_lost}
use Rattle.search.proofs.UseLaws.{at_node}
use Rattle.search.proofs.RowLaws.{reached_whole}
use Rattle.search.proofs.WayLaws.{damage_passed, reached_page, reached_none, reached_err}
use Rattle.search.proofs.span_behind.Goals as goal

pub reach_from-requires : goal.reach_from-requires
reach_from-requires c =
    let p = c.requires in
    (p.0, at_node _ _ _ _ p.0 p.1 refl, p.2, λ q. reached_whole _ _ _ _ _ _ _ _ (sym (ap (λ r. r.ok) p.3) ∙ p.4 q))

pub returns-in_err-p : goal.returns-in_err-p
unfolding no_span
returns-in_err-p c =
    let h = reached_err _ (sym c.in_err-p.was ∙ c.reach_from.ensures) in
    damage_passed _ c.from_residual.ensures.1 h.1
    ∙ ap span_result (sym (c.requires.3 ∙ ap (reached_span _ _ _ _ _ _ _) (sym h.0) ∙ reached_lost _ _ _ _ _ _ _))

pub returns-in_default : goal.returns-in_default
unfolding no_span
returns-in_default c =
    let h = reached_none _ (sym (c.in_ok-p.was ∙ ap Ok c.in_default.is) ∙ c.reach_from.ensures) in
    ap span_result (sym (c.requires.3 ∙ ap (reached_span _ _ _ _ _ _ _) (sym h) ∙ reached_past _ _ _ _ _ _ _))

pub reached_span-requires : goal.reached_span-requires
reached_span-requires c =
    let a = c.args in
    let p = c.requires in
    let h = reached_page _ (sym (c.in_ok-p.was ∙ ap Ok c.in-Some.is) ∙ c.reach_from.ensures) in (
      p.0,
      p.1,
      subst (Some a.store.now a.head) (sym h) (reach_some a.store.now a.head (a.head.nodes_taken + 1) a.t.node a.start),
      λ q. ap (λ x. (reached_span a.f a.store.now a.head a.strict a.key a.t.node a.t.used x).ok) h ∙ sym (ap (λ r. r.ok) p.3) ∙ p.4 q,
    )

pub returns : goal.returns
returns c =
    let h = reached_page _ (sym (c.in_ok-p.was ∙ ap Ok c.in-Some.is) ∙ c.reach_from.ensures) in
    c.reached_span.ensures ∙ ap span_result (ap (reached_span _ _ _ _ _ _ _) h ∙ sym c.requires.3)
