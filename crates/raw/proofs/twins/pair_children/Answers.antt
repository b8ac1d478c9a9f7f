use mathlib.Core.Path.{ap, ◌∙◌}
use native.Mathlib.Omega.{arith}
use Rattle.store.specs.Head.{word}
use Rattle.raw.specs.Blocks.{node_block}
use Rattle.raw.proofs.TwinLaws.{from_first, from_turn, from_done}
use Rattle.raw.proofs.twins.pair_children.Goals as goal

pub loop-j-init : goal.loop-j-init
loop-j-init c = from_first _ _ _ _ _ _

pub loop-j-preserved : goal.loop-j-preserved
loop-j-preserved c =
    let l = c.loop-j in
    let a = c.args in
    let b = c.word.ensures ∙ ap (word a.twins.now) c.to_index.ensures.0 in
    from_turn _ _ _ _ _ _ _ l.j _ l.invariant (omega arith) c.node_at-ax.ensures.0
    (c.node_at-ay.ensures.0 ∙ ap (node_block a.y.now) b) c.entry_word.ensures c.entry_word-in-loop-j.ensures c.pair.ensures

pub returns : goal.returns
returns c = let l = c.loop-j in from_done _ _ _ _ _ _ _ l.j _ l.invariant (omega arith) c.entries-j-end.ensures.0
