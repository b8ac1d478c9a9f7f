-- The page is cut by number, on its two tests: none low, all low, some of each.
use Rattle.std.proofs.Common.{sym, ◌∙◌}
use Rattle.insert.proofs.PageCode.{part_limits, part_asks, part_next, part_low, part_high, part_ready, part_both}
use Rattle.insert.proofs.part_page.Goals as goal

pub page_at-block-requires : goal.page_at-block-requires
page_at-block-requires c =
    let q = c.requires in
    let l = part_limits c.args.f _ _ c.args.page c.args.bit q.0 q.1 in
    (l.1, l.2)

pub low_count-i-requires : goal.low_count-i-requires
low_count-i-requires c = let q = c.requires in part_asks _ _ _ _ _ q.0 q.1 _ c.page_at-block.ensures

pub returns-then-i-eq0 : goal.returns-then-i-eq0
returns-then-i-eq0 c =
    let q = c.requires in
    (q.0, part_low _ _ _ _ _ q.0 q.1 _ _ c.page_at-block.ensures c.low_count-i.ensures.1 c.if-i-eq0.true)

pub returns-then-i-count_of : goal.returns-then-i-count_of
returns-then-i-count_of c =
    let q = c.requires in (
      q.0,
      part_high _ _ _ _ _ q.0 q.1 _ _ c.page_at-block.ensures c.low_count-i.ensures.1 c.if-i-eq0.false
          (c.if-i-count_of.true ∙ c.count_of.ensures.0),
    )

pub take_page-g-requires : goal.take_page-g-requires
take_page-g-requires c =
    let q = c.requires in
    let l = part_limits c.args.f _ _ c.args.page c.args.bit q.0 q.1 in
    (l.0, q.0, l.1, l.2, l.3)

pub page_start-from-requires : goal.page_start-from-requires
page_start-from-requires c =
    let q = c.requires in
    let e = c.take_page-g.ensures in
    part_next _ _ _ _ _ q.0 q.1 _ _ e.1 e.2

pub page_start-to-requires : goal.page_start-to-requires
page_start-to-requires c =
    let q = c.requires in
    let e = c.take_page-g.ensures in
    part_next _ _ _ _ _ q.0 q.1 _ _ e.1 e.2

pub halve_page-requires : goal.halve_page-requires
halve_page-requires c =
    let q = c.requires in
    let e = c.take_page-g.ensures in
    let low = c.low_count-i.ensures in
    part_ready _ _ _ _ _ q.0 q.1 _ _ c.page_at-block.ensures low.1 _ _ _ _ _ e.1 e.2 e.0 c.page_start-from.ensures.0
    c.page_start-to.ensures.0 low.0

pub returns : goal.returns
returns c =
    let q = c.requires in
    let e = c.take_page-g.ensures in
    let low = c.low_count-i.ensures in
    part_both _ _ _ _ _ q.0 q.1 _ _ c.page_at-block.ensures low.1 _ _ _ _ _ e.1 e.2 e.0 c.page_start-from.ensures.0
    c.page_start-to.ensures.0 _ c.if-i-eq0.false (λ h. c.if-i-count_of.false (h ∙ sym c.count_of.ensures.0)) low.0 c.halve_page.ensures
