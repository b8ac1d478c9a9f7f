-- The new page is a part of the words, lent and given back; then the run is aimed at it.
use Rattle.insert.proofs.PlaceCode.{take_asks, next_limits, first_inside, first_asks, aim_asks, aim_done}
use Rattle.insert.proofs.take_own.Goals as goal

pub take_page-g-requires : goal.take_page-g-requires
take_page-g-requires c =
    let p = c.requires in
    take_asks _ _ _ _ p.0.placing p.1

pub page_start-at-requires : goal.page_start-at-requires
page_start-at-requires c =
    let p = c.requires in
    let e = c.take_page-g.ensures in
    next_limits _ _ _ _ p.0.placing p.1 _ _ _ e.1 e.2 e.0

pub page_words-requires : goal.page_words-requires
page_words-requires c =
    let p = c.requires in
    let e = c.take_page-g.ensures in
    (next_limits _ _ _ _ p.0.placing p.1 _ _ _ e.1 e.2 e.0).1

pub slice_bounds-write_first-end : goal.slice_bounds-write_first-end
slice_bounds-write_first-end c =
    let p = c.requires in
    let e = c.take_page-g.ensures in
    first_inside _ _ _ _ p.0.placing p.1 _ _ _ e.1 e.2 e.0 _ _ c.page_start-at.ensures.0 c.page_words.ensures.0

pub write_first-requires : goal.write_first-requires
write_first-requires c =
    let p = c.requires in
    let e = c.take_page-g.ensures in
    first_asks _ _ _ _ p.0.placing p.1 _ _ _ e.1 e.2 e.0 _ _ c.page_start-at.ensures.0 c.page_words.ensures.0

pub aim_block-requires : goal.aim_block-requires
aim_block-requires c =
    let p = c.requires in
    let e = c.take_page-g.ensures in
    aim_asks _ _ _ _ p.0.placing p.1 _ _ _ e.1 e.2 e.0 _ _ c.page_start-at.ensures.0 c.page_words.ensures.0 _ c.write_first.ensures p.2

pub returns : goal.returns
returns c =
    let p = c.requires in
    let e = c.take_page-g.ensures in
    let start = c.page_start-at.ensures.0 in
    let words = c.page_words.ensures.0 in
    let first = c.write_first.ensures in
    let aimed = c.aim_block.ensures in (
      (aim_done _ _ _ _ p.0.placing p.1 _ _ _ e.1 e.2 e.0 _ _ start words _ first _ aimed).0,
      λ d q. (aim_done _ _ _ _ q p.1 _ _ _ e.1 e.2 e.0 _ _ start words _ first _ aimed).1,
    )
