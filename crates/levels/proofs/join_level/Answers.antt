-- The node is taken in hand, and joined if the level below joined.
use mathlib.Core.Path.{refl, ap, ◌∙◌}
use lib.ListN.{length}
use Rattle.remove.proofs.InsideRemove.{cover_long}
use Rattle.levels.proofs.LevelLaws.{level_rests, level_joins}
use Rattle.levels.proofs.join_level.Goals as goal

pub take_node-requires : goal.take_node-requires
take_node-requires c = let p = c.requires in (p.0, p.1, p.3, p.7, p.9)

pub returns-then-not-joins : goal.returns-then-not-joins
returns-then-not-joins c =
    let a = c.args in (
      level_rests a.f a.store.now a.head a.key a.level a.t a.m a.q a.joins _ a.gone.now a.marks.now a.at
          c.if-not-joins.true c.requires.0.head c.take_node.ensures.0,
      (λ o. refl),
      c.requires.12,
      tt,
    )

pub join_nodes-requires : goal.join_nodes-requires
join_nodes-requires c =
    let p = c.requires in
    (p.0, p.2, p.3, p.4, p.5, p.6, ap length c.take_node.ensures.0 ∙ cover_long _ _ _ _ _, p.8, c.take_node.ensures.1, p.10, p.11, p.12)

pub returns : goal.returns
returns c =
    let a = c.args in (
      level_joins a.f a.store.now a.head a.key a.level a.t a.m a.q a.joins _ _ a.gone.now _ a.marks.now _ a.at
          _ c.if-not-joins.false c.requires.0.head c.take_node.ensures.0 c.join_nodes.ensures.0,
      c.join_nodes.ensures.1,
      c.join_nodes.ensures.2,
      c.join_nodes.ensures.3,
    )
