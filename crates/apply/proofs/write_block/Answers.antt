-- The carried words are those of the part that is lent.
use Rattle.std.proofs.Common.{ap, ◌∙◌}
use Rattle.split.specs.Frame.{put_node}
use Rattle.apply.proofs.LoopLaws.{node_put_is, part_lent}
use Rattle.apply.proofs.write_block.Goals as goal

pub returns : goal.returns
returns c =
    let a = c.args in
    c.put_block.ensures
    ∙ node_put_is a.store.now a.head c.requires.0 a.n _
    ∙ ap (put_node a.store.now a.n) (part_lent a.blocks.now a.at c.node_words.result _ c.node_words.ensures.0 c.requires.3)
