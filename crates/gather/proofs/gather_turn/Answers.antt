-- By its two tests: no page to join with, no page in hand, both.
use Rattle.std.proofs.Common.{◌≤◌, length, ap, ◌∙◌, arith, rules}
use Rattle.page.specs.Page.{count}
use Rattle.search.proofs.BlockLaws.{under_page}
use Rattle.gather.proofs.GatherLaws.{page_long, own_image, own_count, turn_null, turn_fresh, turn_both}
use Rattle.gather.proofs.gather_turn.Goals as goal

pub returns-then-p-eq0 : goal.returns-then-p-eq0
returns-then-p-eq0 c = (search rules, search rules, search rules, λ g y. turn_null y _ _ _ _ c.if-p-eq0.true)

pub page_at-requires : goal.page_at-requires
page_at-requires c = under_page c.requires.0

pub add_page-requires : goal.add_page-requires
add_page-requires c =
    let p = c.requires in
    let some : 1 ≤ c.args.p = omega (arith, c.if-p-eq0.false) in (
      p.2,
      ap length c.page_at.ensures ∙ page_long p.0 some p.1.taken,
      omega (arith, p.3, ap count c.page_at.ensures, own_count p.0 some p.1.taken (p.1.rule c.if-p-eq0.false)),
    )

pub returns-then-hand-eq0 : goal.returns-then-hand-eq0
returns-then-hand-eq0 c =
    let p = c.requires in
    let some : 1 ≤ c.args.p = omega (arith, c.if-p-eq0.false) in
    let image = c.page_at.ensures ∙ own_image p.0 some p.1.taken (p.1.rule c.if-p-eq0.false) in (
      search rules,
      search rules,
      search rules,
      λ g y. turn_fresh y _ _ _ _ c.if-p-eq0.false (c.add_page.ensures g.items _ y.items_are image) c.if-hand-eq0.true,
    )

pub returns : goal.returns
returns c =
    let p = c.requires in
    let some : 1 ≤ c.args.p = omega (arith, c.if-p-eq0.false) in
    let image = c.page_at.ensures ∙ own_image p.0 some p.1.taken (p.1.rule c.if-p-eq0.false) in (
      search rules,
      search rules,
      search rules,
      λ g y. turn_both y _ _ _ _ c.if-p-eq0.false (c.add_page.ensures g.items _ y.items_are image) c.if-hand-eq0.false p.4 c.pick-2.ensures
          c.pick.ensures,
    )
