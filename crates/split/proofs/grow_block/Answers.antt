-- The run is halved in the part that is lent.
use mathlib.Core.Path.{◌≡◌, ap, ◌∙◌}
use Prim.Native.Nat.{◌+◌, ◌-◌}
use lib.ListN.{take, drop}
use Rattle.lists.specs.Bits.{bits, index}
use Rattle.store.specs.Format.{width}
use Rattle.store.specs.Head.{node_at}
use Rattle.node.specs.Node.{depth_word}
use Rattle.split.specs.Block.{grow}
use Rattle.split.proofs.ValueLaws.{node_lent, node_back, node_long}
use Rattle.split.proofs.SplitLaws.{reached_growable}
use Rattle.split.proofs.grow_block.Goals.{After-node_words}
use Rattle.split.proofs.grow_block.Goals as goal

lent : (c : After-node_words) → let a = c.args in
    let at = c.node_start-at.result in
    take (at + c.node_words.result - at) (drop at a.store.now) ≡ node_at a.store.now a.head a.n
lent c = node_lent c.args.store.now c.args.head c.args.n c.node_start-at.ensures.0 c.node_words.ensures.0 c.requires.1

pub grow_part-requires : goal.grow_part-requires
grow_part-requires c =
    let a = c.args in
    let long = node_long a.store.now a.head a.n c.requires.1 in
    let g =
    reached_growable a.f a.head.theta _ a.key a.used c.requires.3 c.entry_in-i.ensures long c.requires.4
    (lent (goal.at.grow_part-requires c).After-node_words) in
    (c.requires.0, g.0, g.1, g.2, g.3, g.4)

pub returns : goal.returns
returns c =
    let a = c.args in
    let k = bits (width a.f - a.used) a.key in
    let l = lent (goal.at.returns c).After-node_words in
    node_back a.store.now a.head a.n c.node_start-at.ensures.0 c.node_words.ensures.0
    (c.grow_part.ensures k (ap (λ b. index (depth_word b 0) k) l ∙ c.entry_in-i.ensures)
    ∙ ap (λ b. grow a.head.theta b k a.a a.c) l)
