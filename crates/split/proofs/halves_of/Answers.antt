-- The node's block, a part of the store, is split.
use mathlib.Core.Path.{◌≡◌, sym, ap, ◌∙◌, subst}
use Prim.Native.Nat.{◌+◌, ◌-◌}
use lib.ListN.{length, take, drop}
use Rattle.lists.specs.Bits.{bits}
use Rattle.store.specs.Format.{width}
use Rattle.store.specs.Head.{node_at}
use Rattle.node.specs.Node.{depth_word}
use Rattle.split.specs.Block.{lower, upper}
use Rattle.split.specs.Value.{Reached}
use Rattle.split.proofs.ValueLaws.{node_lent, node_long}
use Rattle.split.proofs.halves_of.Goals.{After-node_words}
use Rattle.split.proofs.halves_of.Goals as goal

-- the block is lent
lent : (c : After-node_words) → let a = c.args in
    let at = c.node_start-at.result in
    take (at + c.node_words.result - at) (drop at a.store.now) ≡ node_at a.store.now a.head a.n
lent c = node_lent c.args.store.now c.args.head c.args.n c.node_start-at.ensures.0 c.node_words.ensures.0 c.requires.2

pub split_into-requires : goal.split_into-requires
split_into-requires c =
    let a = c.args in
    let l = lent (goal.at.split_into-requires c).After-node_words in (
      c.requires.0,
      c.requires.1,
      ap length l ∙ node_long a.store.now a.head a.n c.requires.2,
      c.requires.6,
      c.requires.7,
      c.requires.3,
      subst (λ b. Reached a.f a.head.theta b a.key a.used) (sym l) c.requires.4,
      ap (λ b. depth_word b 0) l ∙ c.requires.5,
    )

pub returns : goal.returns
returns c =
    let a = c.args in
    let k = bits (width a.f - a.used) a.key in
    let l = lent (goal.at.returns c).After-node_words in (
      c.split_into.ensures.0 ∙ ap (λ b. lower a.head.theta b k a.a a.c) l,
      c.split_into.ensures.1 ∙ ap (λ b. upper a.head.theta b k a.a a.c) l,
    )
