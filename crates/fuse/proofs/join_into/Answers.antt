-- Both nodes are written out to the deeper one's depth, every local depth more by one: the left one first, the right one behind it.
use Rattle.std.proofs.Common.{suc, ◌+◌, ◌*◌, ◌≤◌, ◌<◌, refl, subst, ◌∙◌, arith}
use Rattle.store.specs.Head.{node_words}
use Rattle.split.proofs.ValueLaws.{entries_room}
use Rattle.fuse.proofs.FuseLaws.{lift_low, joined_words}
use Rattle.fuse.proofs.join_into.Goals.{After-pow2-n}
use Rattle.fuse.proofs.join_into.Goals as goal

room : (c : After-pow2-n) → 4 + 2 * (c.pow2-n.result + c.pow2-n.result) ≤ node_words c.args.theta
room c =
    let theta = c.args.theta in
    let d = c.max-d.result in
    omega (
      arith,
      c.pow2-n.ensures.0,
      entries_room theta (suc d) {n = node_words theta} (omega (arith, c.max-d.ensures, c.requires.6)) refl,
    )

pub lift_entries-requires : goal.lift_entries-requires
lift_entries-requires c =
    let a = c.args in
    let r = room (goal.at.lift_entries-requires c).After-pow2-n in (
      c.pow2.ensures.1,
      omega (arith, r, c.requires.1),
      omega (arith, r, c.requires.3),
      λ j l. lift_low a.theta a.left.now c.max-d.result c.pow2.result c.requires.4 c.requires.0 (omega (arith, c.max-d.ensures)) c.pow2.ensures.0 j
          (subst (λ x. j < x) c.pow2-n.ensures.0 l),
    )

pub lift_entries-requires-2 : goal.lift_entries-requires-2
lift_entries-requires-2 c =
    let a = c.args in
    let r = room (goal.at.lift_entries-requires-2 c).After-pow2-n in (
      c.pow2-2.ensures.1,
      omega (arith, r, c.requires.2),
      omega (arith, r, c.requires.3, c.lift_entries.auto.to),
      λ j l. lift_low a.theta a.right.now c.max-d.result c.pow2-2.result c.requires.5 c.requires.0 (omega (arith, c.max-d.ensures)) c.pow2-2.ensures.0
          j (subst (λ x. j < x) c.pow2-n.ensures.0 l),
    )

pub returns : goal.returns
returns c =
    let a = c.args in
    c.settle.ensures
    ∙ joined_words a.theta a.left.now a.right.now a.to.now c.max-d.result c.pow2-n.result c.pow2.result c.pow2-2.result c.max-d.ensures
    c.pow2-n.ensures.0 c.pow2.ensures.0 c.pow2-2.ensures.0 (omega (arith, room (goal.at.returns c).After-pow2-n, c.requires.3)) c.lift_entries.ensures
    c.lift_entries-2.ensures
