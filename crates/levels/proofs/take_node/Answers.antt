-- The node's words, then the run in them.
use mathlib.Core.Path.{sym, ap, ◌∙◌, subst}
use native.Mathlib.Omega.{arith}
use Rattle.store.specs.Format.{width}
use Rattle.node.specs.Node.{depth_word}
use Rattle.search.proofs.BlockLaws.{under_node, block_long}
use Rattle.split.specs.Value.{Shallow}
use Rattle.remove.specs.Remove.{covered}
use Rattle.levels.proofs.LevelLaws.{hand_fine}
use Rattle.levels.proofs.take_node.Goals as goal

pub copy-requires : goal.copy-requires
copy-requires c = let p = c.requires in p.3 ∙ sym (block_long p.0 p.1 c.node_at-node.ensures)

pub cover_hand-requires : goal.cover_hand-requires
cover_hand-requires c =
    let p = c.requires in
    let e = c.copy.ensures ∙ c.node_at-node.ensures in
    let d = ap (λ x. depth_word x 0) e in (
      (under_node p.0).0,
      block_long p.0 p.1 e,
      subst (Shallow c.args.head.theta) (sym e) p.4.shallow,
      p.2,
      omega (arith, d, p.4.left),
      omega (arith, d, p.4.reaches),
    )

pub returns : goal.returns
returns c =
    let a = c.args in
    let e =
    c.cover_hand.ensures
    ∙ ap (covered (width a.f) a.head.theta a.key a.t.used a.m a.q) (c.copy.ensures ∙ c.node_at-node.ensures) in
    (e, hand_fine a.f a.head.theta a.key a.t.used a.m a.q _ c.requires.4 e)
