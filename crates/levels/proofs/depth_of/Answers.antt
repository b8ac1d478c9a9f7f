-- A level that changes is carried, and another one stands in the store.
use mathlib.Core.Path.{ap, ◌∙◌}
use Prim.Native.Nat.{◌*◌, ◌≤◌}
use native.Mathlib.Omega.{arith}
use Rattle.store.specs.Head.{word, node_start}
use Rattle.levels.proofs.RootLaws.{depth_carried, depth_stays}
use Rattle.levels.proofs.depth_of.Goals as goal

pub returns-then-l-changed : goal.returns-then-l-changed
returns-then-l-changed c x y =
    let p = c.requires in
    c.word.ensures ∙ ap (λ i. word c.args.blocks.now (132 * i)) c.to_index-i.ensures.0
    ∙ depth_carried _ _ _ _ _ _ x p.1 p.2 c.if-l-changed.true y

pub returns : goal.returns
returns c x y =
    let a = c.args in
    let p = c.requires in
    let high : a.changed ≤ a.l = omega (arith, c.if-l-changed.false) in
    c.word-3.ensures ∙ ap (word a.store.now) c.node_start.ensures.0
    ∙ ap (λ m. word a.store.now (node_start a.head m)) (c.word-2.ensures ∙ ap (word a.numbers.now) c.to_index-i.ensures.0)
    ∙ depth_stays _ _ _ _ _ _ x p.0 high (p.3 _ high (omega arith)) y
