-- The page is copied, and the record taken out of the copy.
use Rattle.std.proofs.Common.{◌≡◌, ℕ, true, List, length, sym, ap, ◌∙◌, rules, arith}
use Rattle.lists.specs.Lists.{All}
use Rattle.lists.specs.Keyed.{Sorted}
use Rattle.store.specs.declared.Format.{Format}
use Rattle.store.specs.declared.Head.{Head}
use Rattle.store.specs.declared.Item.{Item}
use Rattle.store.specs.Head.{page_at, Under}
use Rattle.page.specs.Page.{count, key_at, lawful_item}
use Rattle.page.specs.Schema.{key_of}
use Rattle.search.proofs.BlockLaws.{under_page}
use Rattle.represent.specs.Image.{page_image}
use Rattle.insert.specs.Enter.{own_items}
use Rattle.joins.specs.Joins.{without}
use Rattle.gather.specs.Gather.{OwnPage}
use Rattle.gather.proofs.GatherLaws.{page_long, own_image, own_lawful, own_sorted, own_fits, first_some, first_none}
use Rattle.gather.proofs.first_page.Goals as goal

pub page_at-requires : goal.page_at-requires
page_at-requires c = under_page c.requires.0

pub copy-requires : goal.copy-requires
copy-requires c =
    let p = c.requires in
    p.2 ∙ sym (ap length c.page_at.ensures ∙ page_long p.0 p.1.some p.1.taken)

pub take_out-requires : goal.take_out-requires
take_out-requires c =
    let p = c.requires in
    let e = c.copy.ensures ∙ c.page_at.ensures in (
      ap length e ∙ page_long p.0 p.1.some p.1.taken,
      omega (arith, ap count e, own_fits p.0 p.1.some p.1.taken p.1.rule),
      omega (arith, ap count e, p.1.inside),
    )

-- the records that are left, by what is said of the copy and of its end
module _ {f : Format} {s : List ℕ} {h : Head} {page i : ℕ} (u : Under f s h) (own : OwnPage f s h page i) {copy end : List ℕ}
    (e : copy ≡ page_at f s h page) where
  left : ((xs : List Item) → copy ≡ page_image f h.capacity xs → All (λ it. lawful_item f it ≡ true) xs → Sorted key_of xs
      → end ≡ page_image f h.capacity (without key_of (key_at f copy i) xs))
      → end ≡ page_image f h.capacity (without key_of (key_at f (page_at f s h page) i) (own_items f s h page))
  left t =
      t (own_items f s h page) (e ∙ own_image u own.some own.taken own.rule) (own_lawful u own.some own.taken own.rule) (own_sorted u own.some own.taken own.rule)
      ∙ ap (λ pg. page_image f h.capacity (without key_of (key_at f pg i) (own_items f s h page))) e

pub returns-then-count_of-ne0 : goal.returns-then-count_of-ne0
returns-then-count_of-ne0 c =
    let x = left c.requires.0 c.requires.1 (c.copy.ensures ∙ c.page_at.ensures) c.take_out.ensures in
    (search rules, search rules, search rules, first_some _ _ _ _ _ x c.count_of.ensures.0 c.if-count_of-ne0.true _)

pub returns : goal.returns
returns c =
    let x = left c.requires.0 c.requires.1 (c.copy.ensures ∙ c.page_at.ensures) c.take_out.ensures in (
      search rules,
      search rules,
      search rules,
      first_none _ _ _ _ _ x c.count_of.ensures.0 (omega (arith, c.if-count_of-ne0.false)) c.args.lost.now c.requires.3,
    )
