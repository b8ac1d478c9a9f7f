-- The halves are made in two blocks beside the store and written.
use mathlib.Core.Path.{◌≡◌, ap₂, ◌∙◌}
use Prim.Native.Nat.{◌-◌}
use native.Mathlib.Omega.{arith}
use lib.ListN.{length, take, drop}
use Rattle.lists.specs.Lists.{replaced}
use Rattle.store.specs.Head.{node_start, node_words}
use Rattle.split.proofs.ValueLaws.{spare, front_long, front_room, length_front, front_is}
use Rattle.split.proofs.split_block.Goals.{After-node_words-w}
use Rattle.split.proofs.split_block.Goals as goal

-- a block's words of 132
room : (c : After-node_words-w) → length (take (c.node_words-w.result - 0) (drop 0 spare)) ≡ c.node_words-w.result
room c = front_long spare c.node_words-w.result (omega (arith, c.node_words-w.ensures.2))

pub halves_of-requires : goal.halves_of-requires
halves_of-requires c =
    let long = room (goal.at.halves_of-requires c).After-node_words-w ∙ c.node_words-w.ensures.0 in
    (c.requires.0, c.requires.1, c.requires.2, c.requires.4, c.requires.5, c.requires.6, long, long)

pub slice_bounds-put_both-end : goal.slice_bounds-put_both-end
slice_bounds-put_both-end c =
    front_room spare c.node_words-w.result (c.halves_of.auto.low ∙ room (goal.at.slice_bounds-put_both-end c).After-node_words-w) c.halves_of.ensures.0

pub slice_bounds-put_both-end-2 : goal.slice_bounds-put_both-end-2
slice_bounds-put_both-end-2 c =
    front_room spare c.node_words-w.result (c.halves_of.auto.high ∙ room (goal.at.slice_bounds-put_both-end-2 c).After-node_words-w)
    c.halves_of.ensures.1

pub put_both-requires : goal.put_both-requires
put_both-requires c =
    let r = room (goal.at.put_both-requires c).After-node_words-w in
    let made = c.halves_of.ensures in (
      c.requires.1,
      c.requires.2,
      c.requires.3,
      length_front spare c.node_words-w.result (c.halves_of.auto.low ∙ r) made.0 ∙ c.node_words-w.ensures.0,
      length_front spare c.node_words-w.result (c.halves_of.auto.high ∙ r) made.1 ∙ c.node_words-w.ensures.0,
    )

pub returns : goal.returns
returns c =
    let r = room (goal.at.returns c).After-node_words-w in
    let a = c.args in
    let n = node_words a.head.theta in
    let made = c.halves_of.ensures in
    c.put_both.ensures
    ∙ ap₂ (λ x y. replaced (node_start a.head a.m) n x (replaced (node_start a.head a.n) n y a.store.now))
    (front_is spare c.node_words-w.result (c.halves_of.auto.high ∙ r) made.1)
    (front_is spare c.node_words-w.result (c.halves_of.auto.low ∙ r) made.0)
