-- What stays is written first, then the blocks are released, and the root is named last: the plan's own words.
use Rattle.std.proofs.Common.{◌-◌, ap, ◌∙◌, arith}
use Rattle.store.specs.Head.{word}
use Rattle.apply.proofs.PlanLaws.{sizes, bounds, few, pages_fit, nodes_fit, page_ready, blocks_ready, back_ready, then_ready, image_here, kept_here, all_here}
use Rattle.apply.proofs.carry_out.Goals as goal

pub write_kept-requires : goal.write_kept-requires
write_kept-requires c =
    let r = c.requires in
    let b = bounds _ _ _ _ _ _ _ _ _ r in (
      sizes _ _ _ _ _ _ _ _ _ r,
      b.0,
      b.2,
      omega (arith, b.3),
      page_ready _ _ _ _ _ _ _ _ _ r,
      omega (arith, r.changed_in, r.numbers_long),
      r.blocks_long,
      blocks_ready _ _ _ _ _ _ _ _ _ r,
      back_ready _ _ _ _ _ _ _ _ _ r,
    )

pub release_both-requires : goal.release_both-requires
release_both-requires c =
    let r = c.requires in
    let b = bounds _ _ _ _ _ _ _ _ _ r in
    let z = then_ready _ _ _ _ _ _ _ _ _ r c.write_kept.new.store c.write_kept.ensures in
    let n = few _ _ _ _ _ _ _ _ _ r in
    let long = c.write_kept.auto.store in (
      z.0,
      b.0,
      b.1,
      b.2,
      omega (arith, b.3, long),
      r.pages_long,
      r.nodes_long,
      omega (arith, z.1, n.0),
      omega (arith, z.2, n.1),
      λ i h. omega (arith, long, pages_fit _ _ _ _ _ _ _ _ _ r i h),
      λ i h. omega (arith, long, nodes_fit _ _ _ _ _ _ _ _ _ r i h),
    )

pub name_root-requires : goal.name_root-requires
name_root-requires c =
    omega (arith, (bounds _ _ _ _ _ _ _ _ _ c.requires).3, c.write_kept.auto.store, c.release_both.auto.store)

pub returns : goal.returns
returns c p d k =
    let a = c.args in
    let r = c.requires in
    all_here a.f a.store.now a.head a.o a.items.now a.numbers.now a.blocks.now a.pages.now a.nodes.now r p d k
    c.write_kept.new.store c.release_both.new.store c.name_root.new.store (word a.numbers.now (c.to_index-top.result - 1))
    (c.write_kept.ensures p.items (image_here _ _ _ _ _ _ _ _ _ r p d k) ∙ kept_here _ _ _ _ _ _ _ _ _ r p d k)
    c.release_both.ensures (ap (λ n. word a.numbers.now (n - 1)) c.to_index-top.ensures.0) c.name_root.ensures
