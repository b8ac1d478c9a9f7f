-- A node is taken and written as the root, and the head names it.
use Rattle.std.proofs.Common.{rules, ◌∙◌}
use Rattle.split.proofs.Frame.{sized_long}
use Rattle.insert.proofs.SplitCode.{take_needs}
use Rattle.insert.proofs.RootCode.{root_needs, root_done, room_left}
use Rattle.insert.proofs.new_root.Goals as goal

pub take_node-g-requires : goal.take_node-g-requires
take_node-g-requires c =
    let a = c.args in
    let p = c.requires in
    take_needs a.f a.store.now p.1.sized p.1.supply.fits a.head p.0

pub root_block-requires : goal.root_block-requires
root_block-requires c =
    let a = c.args in
    let p = c.requires in
    let e = c.take_node-g.ensures in
    let room = room_left a.f a.store.now p.1 a.head p.0 in
    root_needs a.f a.store.now a.a a.c p.1.sized room.0 room.1 _ _ _ e.1 e.2 e.0

pub name_root-requires : goal.name_root-requires
name_root-requires c = let l = sized_long c.args.f c.args.store.now c.requires.1.sized in search rules

pub head_of-requires : goal.head_of-requires
head_of-requires c = let l = sized_long c.args.f c.args.store.now c.requires.1.sized in search rules

pub returns : goal.returns
returns c =
    let a = c.args in
    let p = c.requires in
    let e = c.take_node-g.ensures in
    let room = room_left a.f a.store.now p.1 a.head p.0 in (
      c.name_root.ensures
          ∙ root_done a.f a.store.now a.a a.c p.1.sized room.0 room.1 a.head _ _ _ _ p.0 e.1 e.2 e.0 c.root_block.ensures,
      c.head_of.ensures,
    )
