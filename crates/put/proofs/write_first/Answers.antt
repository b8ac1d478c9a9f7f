-- A page of zeros, its count, and one record's words behind it.
use Rattle.std.proofs.Common.{ap, arith}
use Rattle.std.proofs.Math.ListN.{set, length-set}
use Rattle.put.proofs.WordLaws.{end_room}
use Rattle.put.proofs.PutLaws.{first_room, first_words}
use Rattle.put.proofs.write_first.Goals as goal

pub slice_bounds-write_item-count : goal.slice_bounds-write_item-count
slice_bounds-write_item-count c =
    omega (arith, length-set c.fill.new.self 0 1, c.fill.ensures.len, first_room c.args.f c.args.capacity c.requires.0)

pub slice_bounds-write_item-start : goal.slice_bounds-write_item-start
slice_bounds-write_item-start c =
    omega (arith, length-set c.fill.new.self 0 1, c.fill.ensures.len, first_room c.args.f c.args.capacity c.requires.0)

pub write_item-requires : goal.write_item-requires
write_item-requires c =
    end_room (set c.fill.new.self 0 1) 1 _
    (omega (arith, length-set c.fill.new.self 0 1, c.fill.ensures.len, first_room c.args.f c.args.capacity c.requires.0))

pub returns : goal.returns
returns c =
    let a = c.args in
    first_words a.f a.capacity a.item a.part.now (set c.fill.new.self 0 1) c.write_item.new.part c.requires.0 c.requires.1
    (ap (λ l. set l 0 1) (c.fill.ensures.after (λ y e. e))) c.write_item.ensures
