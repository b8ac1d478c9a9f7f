-- The halves are made in two blocks beside the store, linked to each other, and written.
use mathlib.Core.Path.{◌≡◌, ap₂, ◌∙◌}
use Prim.Native.Nat.{◌-◌, ◌≤◌}
use native.Mathlib.Omega.{arith}
use lib.ListN.{length, take, drop, length-set}
use Rattle.lists.specs.Bits.{bits}
use Rattle.lists.specs.Lists.{replaced}
use Rattle.store.specs.Format.{width}
use Rattle.store.specs.Head.{node_start, node_words, node_at}
use Rattle.split.proofs.ValueLaws.{spare, front_long, front_room, length_front_set, front_set, four_words}
use Rattle.split.proofs.SplitLaws.{lower_linked, upper_linked}
use Rattle.split.proofs.split_linked.Goals.{After-node_words-w}
use Rattle.split.proofs.split_linked.Goals as goal

-- a block's words of 132
room : (c : After-node_words-w) → length (take (c.node_words-w.result - 0) (drop 0 spare)) ≡ c.node_words-w.result
room c = front_long spare c.node_words-w.result (omega (arith, c.node_words-w.ensures.2))

pub halves_of-requires : goal.halves_of-requires
halves_of-requires c =
    let long = room (goal.at.halves_of-requires c).After-node_words-w ∙ c.node_words-w.ensures.0 in
    (c.requires.0, c.requires.1, c.requires.2, c.requires.4, c.requires.5, c.requires.6, long, long)

pub slice_bounds-put_both-end : goal.slice_bounds-put_both-end
slice_bounds-put_both-end c =
    simp length-set
    (front_room spare c.node_words-w.result (c.halves_of.auto.low ∙ room (goal.at.slice_bounds-put_both-end c).After-node_words-w)
    c.halves_of.ensures.0)

pub slice_bounds-put_both-end-2 : goal.slice_bounds-put_both-end-2
slice_bounds-put_both-end-2 c =
    simp length-set
    (front_room spare c.node_words-w.result (c.halves_of.auto.high ∙ room (goal.at.slice_bounds-put_both-end-2 c).After-node_words-w)
    c.halves_of.ensures.1)

pub put_both-requires : goal.put_both-requires
put_both-requires c =
    let r = room (goal.at.put_both-requires c).After-node_words-w in
    let made = c.halves_of.ensures in (
      c.requires.1,
      c.requires.2,
      c.requires.3,
      length_front_set spare c.node_words-w.result (c.halves_of.auto.low ∙ r) made.0 3 c.args.m ∙ c.node_words-w.ensures.0,
      length_front_set spare c.node_words-w.result (c.halves_of.auto.high ∙ r) made.1 2 c.args.n ∙ c.node_words-w.ensures.0,
    )

pub returns : goal.returns
returns c =
    let r = room (goal.at.returns c).After-node_words-w in
    let a = c.args in
    let θ = a.head.theta in
    let n = node_words θ in
    let ws = node_at a.store.now a.head a.n in
    let k = bits (width a.f - a.used) a.key in
    let made = c.halves_of.ensures in
    -- the two links are among a block's words
    let inside : 4 ≤ c.node_words-w.result = omega (arith, c.node_words-w.ensures.0, four_words θ) in
    c.put_both.ensures
    ∙ ap₂ (λ x y. replaced (node_start a.head a.m) n x (replaced (node_start a.head a.n) n y a.store.now))
    (front_set spare c.node_words-w.result (c.halves_of.auto.high ∙ r) made.1 2 a.n (omega (arith, inside))
    ∙ upper_linked θ a.a a.c ws k a.n)
    (front_set spare c.node_words-w.result (c.halves_of.auto.low ∙ r) made.0 3 a.m (omega (arith, inside))
    ∙ lower_linked θ a.a a.c ws k a.m)
