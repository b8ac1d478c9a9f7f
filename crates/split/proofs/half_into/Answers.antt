-- No local depth is over the node's, so the largest lowered one is below it, and the entries that are kept stand evenly spread over the
-- half.
use mathlib.Core.Path.{◌≡◌, sym, ap, ap₂, ◌∙◌}
use Prim.Native.Nat.{pred, ◌+◌, ◌*◌, ◌^◌, ◌≤◌}
use native.Mathlib.Numerals.{sub-one}
use native.Mathlib.Omega.{arith}
use lib.ListN.{length}
use Rattle.node.specs.Node.{depth_word, entry_of}
use Rattle.split.specs.Value.{running}
use Rattle.split.proofs.ValueLaws.{entries_room}
use Rattle.split.proofs.GrowLaws.{start_of, depth_of, half_room, half_deep, half_step, half_words}
use Rattle.split.proofs.half_into.Goals.{After-pow2-n, Joined-upper, After-lower_entries-largest, then-upper, else-upper}
use Rattle.split.proofs.half_into.Goals as goal

-- half as many entries
size : (c : After-pow2-n) → c.pow2-n.result ≡ 2 ^ pred (depth_word c.args.node.now 0)
size c = c.pow2-n.ensures.0 ∙ ap (λ d. 2 ^ d) (sub-one (depth_word c.args.node.now 0))

-- from where the half begins
start : (c : Joined-upper) → c.if-upper.start ≡ start_of (depth_word c.args.node.now 0) c.args.upper
start c =
    let h = depth_word c.args.node.now 0 in
    let n = c.pow2-n.ensures.0 ∙ ap (λ d. 2 ^ d) (sub-one h) in
    elim c.if-upper.branch [
      | then-upper w ↦ w.start-is ∙ n ∙ ap (start_of h) (sym w.if-upper.true)
      | else-upper w ↦ w.start-is ∙ ap (start_of h) (sym w.if-upper.false)
    ]

-- both blocks have room for the half
room : (c : Joined-upper) → (4 + 2 * (c.if-upper.start + c.pow2-n.result) ≤ length c.args.node.now) × (4 + 2 * c.pow2-n.result ≤ length c.args.to.now)
room c =
    let a = c.args in
    let h = depth_word a.node.now 0 in
    let n : c.pow2-n.result ≡ 2 ^ pred h = c.pow2-n.ensures.0 ∙ ap (λ d. 2 ^ d) (sub-one h) in
    let half = half_room h a.upper c.requires.3 in
    let long = entries_room a.theta h c.requires.4.low c.requires.1 in
    (omega (arith, start c, n, half, long), omega (arith, n, half, long, c.requires.1, c.requires.2))

pub lower_entries-largest-requires : goal.lower_entries-largest-requires
lower_entries-largest-requires c = room (goal.at.lower_entries-largest-requires c).Joined-upper

-- the largest local depth, less by one
deepest : (c : After-lower_entries-largest) → c.pow2-n.result ≡ 2 ^ pred (depth_word c.args.node.now 0)
    → c.if-upper.start ≡ start_of (depth_word c.args.node.now 0) c.args.upper
    → c.lower_entries-largest.result ≡ depth_of (depth_word c.args.node.now 0) (entry_of c.args.node.now 0) c.args.upper
unfolding running
deepest c n s = c.lower_entries-largest.ensures.1 ∙ ap₂ (λ n s. running c.args.node.now s n) n s

low : (c : After-lower_entries-largest) → c.pow2-n.result ≡ 2 ^ pred (depth_word c.args.node.now 0)
    → c.if-upper.start ≡ start_of (depth_word c.args.node.now 0) c.args.upper
    → c.lower_entries-largest.result ≤ pred (depth_word c.args.node.now 0)
low c n s = omega (arith, deepest c n s, half_deep c.args.theta c.args.node.now c.requires.3 c.requires.4 c.args.upper)

pub pow2-m-requires : goal.pow2-m-requires
pow2-m-requires c =
    let at = goal.at.pow2-m-requires c in
    omega (arith, low at.After-lower_entries-largest (size at.After-pow2-n) (start at.Joined-upper), c.requires.4.low)

pub thin-requires : goal.thin-requires
thin-requires c =
    let at = goal.at.thin-requires c in
    let n = size at.After-pow2-n in
    let x =
    half_step _ _ c.pow2-n.result c.pow2-m.result (low at.After-lower_entries-largest n (start at.Joined-upper)) n c.pow2-m.ensures.0 in
    (x.1, omega (arith, x.2, (room at.Joined-upper).1, c.lower_entries-largest.auto.to))

pub settle-requires : goal.settle-requires
settle-requires c =
    let at = goal.at.settle-requires c in (
      c.requires.0,
      omega (arith, low at.After-lower_entries-largest (size at.After-pow2-n) (start at.Joined-upper), c.requires.4.low),
      c.thin.auto.part ∙ c.lower_entries-largest.auto.to ∙ c.requires.2,
    )

pub returns : goal.returns
returns c =
    let at = goal.at.returns c in
    let a = c.args in
    let n = size at.After-pow2-n in
    let s = start at.Joined-upper in
    c.settle.ensures
    ∙ half_words a.theta a.node.now c.requires.3 c.requires.4 a.upper c.if-upper.start c.pow2-n.result c.lower_entries-largest.result c.pow2-m.result
    s n (deepest at.After-lower_entries-largest n s) c.pow2-m.ensures.0 a.to.now (room at.Joined-upper).1
    c.lower_entries-largest.ensures.0 c.lower_entries-largest.auto.to c.thin.ensures
