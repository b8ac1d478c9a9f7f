-- The page, the blocks and the link, one after another; the sizes stay.
use Rattle.std.proofs.Common.{◌≡◌, ◌<◌, ℕ, length, take, arith}
use lib.Seq.{length-take-le, get_or-take}
use Rattle.store.specs.Head.{word}
use Rattle.remove.specs.Remove.{put_own}
use Rattle.apply.specs.Carried.{spot_in}
use Rattle.apply.proofs.PlanLaws.{kept_is, own_is, sizes_page}
use Rattle.apply.proofs.write_kept.Goals as goal

pub write_blocks-requires : goal.write_blocks-requires
write_blocks-requires c =
    let a = c.args in
    let p = c.requires in
    let w = c.write_page in
    let n : ℕ = c.to_index.result in
    let e = c.to_index.ensures.0 in
    let long : length (take n a.numbers.now) ≡ n = length-take-le n a.numbers.now (omega (arith, e, p.5)) in (
      sizes_page a.f a.store.now w.new.store a.head a.o.page a.items.now p.3 p.0 w.ensures.0 w.ensures.1,
      p.1,
      omega (arith, w.auto.store, p.3),
      omega (arith, e, long, p.6),
      λ i h.
          let k : i < n = omega (arith, h, long) in
          let same : word (take n a.numbers.now) i ≡ word a.numbers.now i = get_or-take n a.numbers.now i 0 k in
          rw same (omega (arith, w.auto.store, p.7 i (omega (arith, e, k)))),
    )

pub returns : goal.returns
returns c rs is =
    let a = c.args in
    let w = c.write_page in
    kept_is a.head.theta a.numbers.now a.blocks.now (put_own a.f a.head.capacity a.store.now a.o.page rs) w.new.store
    c.write_blocks.new.store c.write_back.new.store a.o.linked (spot_in a.head.theta a.numbers.now a.blocks.now 0) a.o.changed
    c.to_index.result c.to_index.ensures.0 c.requires.5
    (own_is a.f a.store.now w.new.store a.o.page rs a.items.now a.head.capacity w.ensures.0 w.ensures.1 is)
    c.write_blocks.ensures.0 c.write_back.ensures
