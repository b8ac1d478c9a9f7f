-- All of them, or up to the first record above high.
use mathlib.Core.Path.{sym, ap, ◌∙◌}
use mathlib.Core.Bool.{true}
use native.Mathlib.Omega.{arith}
use Rattle.store.specs.Head.{page_at}
use Rattle.page.specs.Page.{first_above}
use Rattle.search.proofs.BlockLaws.{under_page}
use Rattle.scan.proofs.WalkLaws.{end_all, end_part, end_short}
use Rattle.scan.proofs.StandLaws.{rows_filled}
use Rattle.scan.proofs.end_of.Goals as goal

pub returns-then-r-high : goal.returns-then-r-high
returns-then-r-high c =
    let a = c.args in
    let w = c.requires.1 in
    let e = end_all a.f (page_at a.f a.store.now a.head a.r.page) a.r.from a.r.to a.high (rw w.last at c.if-r-high.true) in
    (sym e, omega (arith, w.rows.some), omega arith)

pub page_at-page-requires : goal.page_at-page-requires
page_at-page-requires c = under_page c.requires.0

pub first_above-requires : goal.first_above-requires
first_above-requires c = rows_filled c.requires.1.rows c.page_at-page.ensures

pub returns : goal.returns
returns c =
    let a = c.args in
    let w = c.requires.1 in
    let pg = page_at a.f a.store.now a.head a.r.page in
    let over = rw w.last at c.if-r-high.false in
    let e = end_part a.f pg a.r.from a.r.to a.high over in
    let l = end_short a.f pg a.r.from a.r.to a.high w.rows.some over in
    let first = c.first_above.ensures.0 ∙ ap (λ ws. first_above a.f ws true a.high) c.page_at-page.ensures in
    (omega (arith, e, first, c.max.ensures), omega (arith, c.max.ensures), omega (arith, first, l, w.rows.some, c.max.ensures))
