-- A node is taken, and the halves are written.
use Rattle.insert.specs.Enter.{place_of}
use Rattle.insert.proofs.SplitCode.{take_needs, split_needs, split_done}
use Rattle.insert.proofs.split_at.Goals as goal

pub take_node-g-requires : goal.take_node-g-requires
take_node-g-requires c =
    let a = c.args in
    let p = c.requires in
    take_needs a.f a.store.now p.2.sized p.2.fits a.head p.0

pub split_block-requires : goal.split_block-requires
split_block-requires c =
    let a = c.args in
    let p = c.requires in
    let e = c.take_node-g.ensures in
    split_needs a.f a.store.now a.key a.t p.2 p.1 a.head _ _ _ p.0 p.4 p.5 p.3 e.1 e.2 e.0

pub returns : goal.returns
returns c =
    let a = c.args in
    let p = c.requires in
    let e = c.take_node-g.ensures in
    let k =
    split_done a.f a.store.now (place_of a.f a.key a.t) a.a a.c p.2 a.head _ _ _ _ p.0 p.4 p.5 e.1 e.2 e.0 c.split_block.ensures in
    (e.0, k.0, k.1)
