-- A node that was seen before was found sound at this level.
use mathlib.Core.Path.{refl}
use native.Mathlib.Omega.{arith}
use Rattle.search.proofs.BlockLaws.{under_node}
use Rattle.siblings.proofs.LeafLaws.{known_visit}
use Rattle.siblings.proofs.visit.Goals as goal

pub seen-known-requires : goal.seen-known-requires
seen-known-requires c = let p = c.requires in ((under_node p.0).0, omega (arith, p.1.within, p.3))

pub visit_node-requires : goal.visit_node-requires
visit_node-requires c =
    let p = c.requires in
    let a = c.args in
    (p.0, p.1, p.2, known_visit a.f a.store.now a.head a.key a.level a.n a.used a.marks.now a.mark c.seen-known.ensures refl p.4)
