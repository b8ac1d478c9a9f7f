-- Next is the first record of the span from the root.
use mathlib.Core.Path.{sym, refl, ap, ◌∙◌}
use Rattle.std.specs.Prelude.{Ok}
use Rattle.search.specs.Way.{sought_result}
use Rattle.search.specs.Span.{span_of, sought_of}
use Rattle.search.proofs.SpanLaws.{next_span, sought_not, sought_none, sought_first}
use Rattle.search.proofs.BlockLaws.{under_page, under_levels}
use Rattle.search.proofs.RowLaws.{row_asked}
use Rattle.search.proofs.WayLaws.{answered_err, damage_passed, span_is, span_none}
use Rattle.search.proofs.next_under.Goals as goal

pub returns-in_err-r : goal.returns-in_err-r
returns-in_err-r c =
    let a = c.args in
    let l = under_levels c.requires in
    let r = span_of a.f a.store.now a.head a.strict a.key in
    let h = answered_err r.ok _ (sym c.in_err-r.was ∙ c.span_at.ensures) in
    damage_passed _ c.from_residual.ensures.1 h.1
    ∙ ap sought_result (sought_not a.f a.store.now a.head r h.0 ∙ sym (next_span a.f a.store.now a.head a.strict a.key l.0 l.1))

pub returns-in_default : goal.returns-in_default
returns-in_default c =
    let a = c.args in
    let l = under_levels c.requires in
    let r = span_of a.f a.store.now a.head a.strict a.key in
    let h = span_none r (sym (c.in_ok-r.was ∙ ap Ok c.in_default.is) ∙ c.span_at.ensures) in
    ap sought_result (sought_none a.f a.store.now a.head r h.0 h.1 ∙ sym (next_span a.f a.store.now a.head a.strict a.key l.0 l.1))

pub page_at-page-requires : goal.page_at-page-requires
page_at-page-requires c = under_page c.requires

pub read_one-requires : goal.read_one-requires
read_one-requires c =
    let h = span_is _ (sym (c.in_ok-r.was ∙ ap Ok c.in-Some.is) ∙ c.span_at.ensures) in
    let k = row_asked c.requires c.args.strict c.args.key h.0 in
    (k.1, rw c.page_at-page.ensures (k.2 refl (λ z. h.1 (sym (ap (λ r. r.page) h.0) ∙ z))))

pub returns : goal.returns
returns c =
    let l = under_levels c.requires in
    let h = span_is _ (sym (c.in_ok-r.was ∙ ap Ok c.in-Some.is) ∙ c.span_at.ensures) in
    ap sought_result
    (sought_first _ _ _ _ refl (λ z. h.1 (sym (ap (λ r. r.page) h.0) ∙ z)) c.page_at-page.ensures c.read_one.ensures
    ∙ ap (sought_of _ _ _) h.0 ∙ sym (next_span _ _ _ _ _ l.0 l.1))
