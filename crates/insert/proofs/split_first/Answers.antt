-- A node is taken, the halves are written with their links, and the node behind is linked back.
use Rattle.std.proofs.Common.{◌≡◌, ap, ◌∙◌, List, ℕ, ◌+◌}
use native.Mathlib.Omega.{arith}
use Rattle.store.specs.declared.Format.{Format}
use Rattle.store.specs.declared.Head.{Head}
use Rattle.store.specs.Head.{word, head_of, node_start}
use Rattle.store.proofs.HeadLaws.{sizes_limits}
use Rattle.node.specs.Node.{forward_word}
use Rattle.split.specs.Frame.{node_of}
use Rattle.split.specs.Round.{Place}
use Rattle.insert.specs.Enter.{place_of}
use Rattle.insert.specs.Fine.{Ready}
use Rattle.insert.proofs.SplitCode.{take_needs, split_needs}
use Rattle.insert.proofs.FirstCode.{forward_own, first_needs, first_done}
use Rattle.insert.proofs.split_first.Goals as goal

-- the node behind, as it was read
behind : (f : Format) (s : List ℕ) (p : Place) → Ready f s p → (h : Head) → h ≡ head_of s → {x i : ℕ} → x ≡ word s (i + 3)
    → i ≡ node_start h p.at → x ≡ forward_word (node_of s p.at) 0
behind f s p y h e r at = r ∙ ap (λ i. word s (i + 3)) at ∙ forward_own f s p y h e

pub node_start-requires : goal.node_start-requires
node_start-requires c =
    let p = c.requires in
    omega (arith, ap (λ (h : Head). h.theta) p.0, (sizes_limits _ _ _ _ p.2.sized.sizes).theta)

pub take_node-g-requires : goal.take_node-g-requires
take_node-g-requires c =
    let a = c.args in
    let p = c.requires in
    take_needs a.f a.store.now p.2.sized p.2.fits a.head p.0

pub split_linked-requires : goal.split_linked-requires
split_linked-requires c =
    let a = c.args in
    let p = c.requires in
    let e = c.take_node-g.ensures in
    split_needs a.f a.store.now a.key a.t p.2 p.1 a.head _ _ _ p.0 p.4 p.5 p.3 e.1 e.2 e.0

pub relink-requires : goal.relink-requires
relink-requires c =
    let a = c.args in
    let p = c.requires in
    let e = c.take_node-g.ensures in
    let t = place_of a.f a.key a.t in
    let b = behind a.f a.store.now t p.2 a.head p.0 c.word-behind.ensures c.node_start.ensures.0 in
    first_needs a.f a.store.now t a.a a.c p.2 a.head _ _ _ _ _ p.0 p.4 p.5 p.6 e.1 e.2 e.0 c.split_linked.ensures b

pub returns : goal.returns
returns c =
    let a = c.args in
    let p = c.requires in
    let e = c.take_node-g.ensures in
    let t = place_of a.f a.key a.t in
    let b = behind a.f a.store.now t p.2 a.head p.0 c.word-behind.ensures c.node_start.ensures.0 in
    let k =
    first_done a.f a.store.now t a.a a.c p.2 a.head _ _ _ _ _ _ p.0 p.4 p.5 p.6 e.1 e.2 e.0 c.split_linked.ensures b c.relink.ensures in
    (e.0, k.0, k.1)
