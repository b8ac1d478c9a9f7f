-- The level's part of the blocks is lent; the others stay.
use mathlib.Core.Path.{refl, ap, ◌∙◌}
use mathlib.Core.Bool.{false}
use Prim.Native.Nat.{◌+◌, ◌*◌}
use Rattle.search.proofs.BlockLaws.{under_node}
use Rattle.search.proofs.WayLaws.{damage_passed}
use Rattle.store.specs.Head.{node_words}
use Rattle.release.proofs.ReleaseLaws.{given_back}
use Rattle.siblings.proofs.OutcomeLaws.{err_told}
use Rattle.levels.proofs.LevelLaws.{part_long_lem, block_here, block_beside, turned}
use Rattle.levels.proofs.level_turn.Goals as goal

pub node_words-requires : goal.node_words-requires
node_words-requires c = (under_node c.requires.0).0

pub returns-in_err-r : goal.returns-in_err-r
returns-in_err-r c =
    let a = c.args in
    let θ = a.head.theta in
    let q = c.in_err-r.was in
    let small = (under_node c.requires.0).0 in
    let hand = c.join_level.new.hand in
    let back =
    given_back a.blocks.now hand (132 * a.l) (node_words θ) (132 * a.l + c.node_words.result)
    (ap (λ w. 132 * a.l + w) c.node_words.ensures.0) in
    let same = c.join_level.auto.hand ∙ part_long_lem θ a.blocks.now a.l c.node_words.result c.node_words.ensures.0 small c.requires.6 in
    rw (damage_passed _ c.from_residual.ensures.1 (err_told q c.join_level.ensures.3)) (
      (λ rs y. turned a.f a.key θ a.l _ _ q false hand _ a.gone.now _ _ (block_here θ a.blocks.now hand a.l small c.requires.6 same back)
          (c.join_level.ensures.0 rs y)),
      tt,
      block_beside θ a.blocks.now hand a.l small c.requires.6 same back,
      c.join_level.ensures.2,
      refl,
    )

pub returns : goal.returns
returns c =
    let a = c.args in
    let θ = a.head.theta in
    let q = c.in_ok-r.was in
    let small = (under_node c.requires.0).0 in
    let hand = c.join_level.new.hand in
    let back =
    given_back a.blocks.now hand (132 * a.l) (node_words θ) (132 * a.l + c.node_words.result)
    (ap (λ w. 132 * a.l + w) c.node_words.ensures.0) in
    let same = c.join_level.auto.hand ∙ part_long_lem θ a.blocks.now a.l c.node_words.result c.node_words.ensures.0 small c.requires.6 in (
      (λ rs y. turned a.f a.key θ a.l _ _ q _ hand _ a.gone.now _ _ (block_here θ a.blocks.now hand a.l small c.requires.6 same back)
          (c.join_level.ensures.0 rs y)),
      (refl, (rw q at c.join_level.ensures.1) refl, refl),
      block_beside θ a.blocks.now hand a.l small c.requires.6 same back,
      c.join_level.ensures.2,
      tt,
    )
