-- The first key of a page that keeps the rule speaks for all.
use mathlib.Core.Path.{refl, sym, ap, ◌∙◌}
use borrow.Author.Rules.{rules}
use Rattle.page.proofs.Inside.{record_inside}
use Rattle.page.proofs.Laws.{rule_facts}
use Rattle.search.specs.Way.{span_result}
use Rattle.search.proofs.BlockLaws.{under_page}
use Rattle.search.proofs.RowLaws.{page_asked, page_filled, page_known, page_broken, page_below, page_gives}
use Rattle.search.specs.Span.{no_span}
use Rattle.search.proofs.SpanLaws.{rows_page}
use Rattle.search.proofs.WayLaws.{span_some}
use Rattle.search.proofs.reached_span.Goals as goal

pub page_at-page-requires : goal.page_at-page-requires
page_at-page-requires c = under_page c.requires.0

pub page_passes-requires : goal.page_passes-requires
page_passes-requires c =
    let p = c.requires in
    page_asked p.0 _ c.page_at-page.ensures _ (λ q. page_known _ _ _ _ _ _ _ refl c.page_at-page.ensures (p.3 q))

pub returns-then-not-page_passes : goal.returns-then-not-page_passes
unfolding no_span
returns-then-not-page_passes c =
    let a = c.args in
    ap span_result
    (page_broken _ _ _ a.strict a.key a.t.node a.t.used refl c.page_at-page.ensures (sym c.page_passes.ensures ∙ c.if-not-page_passes.true))

pub read_one-item-requires : goal.read_one-item-requires
read_one-item-requires c =
    let r = sym c.page_passes.ensures ∙ c.if-not-page_passes.false in
    (search rules, record_inside (page_filled c.requires.0 _ c.page_at-page.ensures r) (rule_facts _ _ _ r).some)

pub returns-then-not-is_above : goal.returns-then-not-is_above
unfolding no_span
returns-then-not-is_above c =
    let a = c.args in
    ap span_result
    (page_below _ _ _ _ _ a.t.node a.t.used refl c.page_at-page.ensures (sym c.page_passes.ensures ∙ c.if-not-page_passes.false)
    c.read_one-item.ensures (sym c.is_above.ensures ∙ c.if-not-is_above.true))

pub reached_rows-requires : goal.reached_rows-requires
reached_rows-requires c =
    let p = c.requires in
    (p.0, p.1, rw (← c.page_at-page.ensures) (sym c.page_passes.ensures ∙ c.if-not-page_passes.false))

pub returns : goal.returns
returns c =
    let e =
    c.reached_rows.ensures
    ∙ page_gives _ _ _ _ _ _ _ refl c.page_at-page.ensures (sym c.page_passes.ensures ∙ c.if-not-page_passes.false)
    c.read_one-item.ensures (sym c.is_above.ensures ∙ c.if-not-is_above.false) in
    span_some e (λ z. c.requires.2 (sym (ap (λ r. r.page) c.reached_rows.ensures ∙ rows_page _ _ _ _ _ _ _) ∙ z))
