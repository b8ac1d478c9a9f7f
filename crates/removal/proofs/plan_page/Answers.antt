-- The pages that join are named first, and then gathered with the key's own.
use mathlib.Core.Path.{refl, sym, ap, ◌∙◌, subst}
use native.Mathlib.Omega.{arith}
use lib.ListN.{length}
use Rattle.std.specs.Prelude.{IfOk}
use Rattle.store.specs.Format.{width}
use Rattle.store.proofs.HeadLaws.{width_within}
use Rattle.page.specs.Page.{count}
use Rattle.page.specs.Schema.{key_of}
use Rattle.search.proofs.BlockLaws.{under_page}
use Rattle.search.proofs.WayLaws.{damage_passed}
use Rattle.insert.specs.Enter.{own_items}
use Rattle.joins.specs.Joins.{without}
use Rattle.remove.specs.Remove.{emptied, page_joins}
use Rattle.gather.proofs.GatherLaws.{own_fits, start_used, start_items}
use Rattle.removal.specs.Removal.{PartFits, PagesDone}
use Rattle.removal.proofs.PlanLaws.{own_less, start_ok, start_tracks, pages_lost, pages_done}
use Rattle.removal.proofs.plan_page.Goals as goal

pub page_at-requires : goal.page_at-requires
page_at-requires c = under_page c.requires.0

pub join_pages-requires : goal.join_pages-requires
join_pages-requires c =
    let p = c.requires in
    let y = p.3 in
    let size = c.count_of-count.ensures.0 ∙ ap count c.page_at.ensures in
    (p.0, p.2, p.1, omega (arith, size, own_fits p.0 y.some y.taken y.rule), p.5, omega arith, p.9)

pub returns-in_err-n : goal.returns-in_err-n
returns-in_err-n c =
    let p = c.requires in
    let a = c.args in
    let xs = without key_of a.key (own_items a.f a.store.now a.head a.page) in
    let less = own_less p.0 p.3 a.key p.4 (c.count_of-count.ensures.0 ∙ ap count c.page_at.ensures) in
    let e = damage_passed _ c.from_residual.ensures.1 c.in_err-n.ensures.7 in (
      subst (λ r. IfOk r (PartFits a.used)) (sym e) tt,
      λ rs y.
          let g = emptied a.used a.page xs rs in
          subst (λ r. PagesDone a.f a.head.capacity a.key (page_joins a.f a.store.now a.head a.key a.used g) r a.items.now a.pages.now c.join_pages.new.marks)
          (sym e) (
            pages_lost a.f a.store.now a.head a.key a.used a.page rs
                (c.in_err-n.ensures.3 g (start_ok a.used a.page xs rs) (start_used a.used a.page xs rs)
                (ap length (start_items a.used a.page xs rs) ∙ sym less) (start_tracks (width a.f) a.key a.used a.page xs y))
                refl,
            refl,
          ),
      c.join_pages.ensures.6,
    )

pub gather_page-hand-requires : goal.gather_page-hand-requires
gather_page-hand-requires c =
    let p = c.requires in
    let a = c.args in
    let v = c.in_ok-n.ensures in
    let less = own_less p.0 p.3 a.key p.4 (c.count_of-count.ensures.0 ∙ ap count c.page_at.ensures) in
    let few = width_within a.f in (
      p.0,
      p.1,
      p.2,
      v.2,
      omega (arith, v.1, v.2, p.2, few),
      p.3,
      p.4,
      v.4,
      omega (arith, v.5, less),
      p.6,
      omega (arith, v.2, p.2, few, p.7),
      p.8,
    )

pub overflow_cast-result-2 : goal.overflow_cast-result-2
overflow_cast-result-2 c = omega (arith, c.gather_page-hand.ensures.2, c.in_ok-n.ensures.2, c.requires.2, width_within c.args.f)

pub returns : goal.returns
returns c =
    let p = c.requires in
    let a = c.args in
    let v = c.in_ok-n.ensures in
    let xs = without key_of a.key (own_items a.f a.store.now a.head a.page) in
    let less = own_less p.0 p.3 a.key p.4 (c.count_of-count.ensures.0 ∙ ap count c.page_at.ensures) in
    let few = width_within a.f in (
      record { bits_in = omega arith; pages_in = omega (arith, c.gather_page-hand.ensures.2, v.2, p.2, few) },
      λ rs y.
          pages_done a.f a.store.now a.head a.key a.used a.page rs
          (v.3 (emptied a.used a.page xs rs) (start_ok a.used a.page xs rs) (start_used a.used a.page xs rs)
          (ap length (start_items a.used a.page xs rs) ∙ sym less) (start_tracks (width a.f) a.key a.used a.page xs y))
          refl (omega (arith, v.1, v.2, p.2, few)) (c.gather_page-hand.ensures.3 rs),
      v.6,
    )
