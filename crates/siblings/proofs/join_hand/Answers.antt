-- Joined, then covered.
use mathlib.Core.Path.{sym, ap, ◌∙◌, subst}
use native.Mathlib.Omega.{arith}
use lib.ListN.{length}
use Rattle.store.specs.Format.{width}
use Rattle.node.specs.Node.{depth_word}
use Rattle.search.proofs.BlockLaws.{under_node, block_long}
use Rattle.split.specs.Value.{Shallow}
use Rattle.remove.specs.Remove.{covered}
use Rattle.siblings.specs.Nodes.{paired}
use Rattle.siblings.proofs.HandLaws.{paired_fine, paired_long, covered_fine}
use Rattle.siblings.proofs.join_hand.Goals as goal

pub join_pair-requires : goal.join_pair-requires
join_pair-requires c =
    let p = c.requires in
    let e = c.node_at-node.ensures in (
      (under_node p.0).0,
      block_long p.0 p.1 e,
      p.2,
      p.3,
      subst (Shallow c.args.head.theta) (sym e) p.5,
      p.4,
      omega (arith, ap (λ x. depth_word x 0) e, p.6),
    )

pub cover_hand-requires : goal.cover_hand-requires
cover_hand-requires c =
    let a = c.args in
    let p = c.requires in
    let e = c.join_pair.ensures ∙ ap (λ x. paired a.head.theta x a.hand.now a.left) c.node_at-node.ensures in
    let fine = paired_fine a.head.theta _ a.hand.now a.left p.5 p.4 p.6 in
    let d = ap (λ x. depth_word x 0) e in (
      (under_node p.0).0,
      ap length e ∙ paired_long a.head.theta _ a.hand.now a.left,
      subst (Shallow a.head.theta) (sym e) fine.0,
      p.7,
      omega (arith, d, fine.1, p.8),
      omega (arith, d, fine.1, p.9),
    )

pub returns : goal.returns
returns c =
    let a = c.args in
    let p = c.requires in
    let e =
    c.cover_hand.ensures
    ∙ ap (covered (width a.f) a.head.theta a.key a.used a.m a.q)
    (c.join_pair.ensures ∙ ap (λ x. paired a.head.theta x a.hand.now a.left) c.node_at-node.ensures) in
    (e, covered_fine a.f a.head.theta a.key a.used a.m a.q _ a.hand.now a.left p.5 p.4 p.6 p.8 p.9 e)
