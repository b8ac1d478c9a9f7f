-- The run is filled, the largest local depth is found, and of the entries those are kept that stand evenly spread.
use Rattle.std.proofs.Common.{ℕ, List, ◌≡◌, ◌+◌, ◌*◌, ◌^◌, ◌≤◌, length, ◌∙◌, arith}
use Rattle.store.specs.Head.{node_words}
use Rattle.node.specs.Node.{depth_word}
use Rattle.split.specs.Value.{Shallow}
use Rattle.split.proofs.ValueLaws.{entries_room}
use Rattle.split.proofs.GrowLaws.{half_step}
use Rattle.fuse.proofs.FuseLaws.{covered_low, covered_words}
use Rattle.fuse.proofs.cover_part.Goals.{After-largest_depth-largest}
use Rattle.fuse.proofs.cover_part.Goals as goal

pub fill-requires : goal.fill-requires
fill-requires c =
    let a = c.args in
    omega (arith, c.run_of-run.ensures.2, entries_room a.theta (depth_word a.part.now 0) c.requires.2.low c.requires.1)

-- the entries in use
entries : (θ : ℕ) (ws : List ℕ) (n : ℕ) → Shallow θ ws → length ws ≡ node_words θ → n ≡ 2 ^ depth_word ws 0 → 4 + 2 * n ≤ length ws
entries θ ws n shallow long is = omega (arith, is, entries_room θ (depth_word ws 0) shallow.low long)

pub largest_depth-largest-requires : goal.largest_depth-largest-requires
largest_depth-largest-requires c =
    omega (arith, entries c.args.theta c.args.part.now _ c.requires.2 c.requires.1 c.pow2-n.ensures.0, c.fill.auto.part)

low : (c : After-largest_depth-largest) → c.largest_depth-largest.result ≤ depth_word c.args.part.now 0
low c =
    let a = c.args in
    let r = c.run_of-run in
    omega (
      arith,
      c.largest_depth-largest.ensures,
      covered_low a.theta a.part.now a.i a.d a.q r.result.n r.result.start c.pow2-n.result c.requires.2 c.requires.3 c.requires.4 r.ensures.0 r.ensures.1
          c.pow2-n.ensures.0 (entries a.theta a.part.now _ c.requires.2 c.requires.1 c.pow2-n.ensures.0) c.fill.ensures,
    )

pub pow2-m-requires : goal.pow2-m-requires
pow2-m-requires c = omega (arith, low (goal.at.pow2-m-requires c).After-largest_depth-largest, c.requires.2.low, c.requires.0)

pub thin-requires : goal.thin-requires
thin-requires c =
    let at = (goal.at.thin-requires c).After-largest_depth-largest in
    let step = half_step _ _ c.pow2-n.result c.pow2-m.result (low at) c.pow2-n.ensures.0 c.pow2-m.ensures.0 in
    (step.1, omega (arith, step.2, entries c.args.theta c.args.part.now _ c.requires.2 c.requires.1 c.pow2-n.ensures.0, c.fill.auto.part))

pub settle-requires : goal.settle-requires
settle-requires c = (
  c.requires.0,
  omega (arith, low (goal.at.settle-requires c).After-largest_depth-largest, c.requires.2.low),
  c.thin.auto.part ∙ c.fill.auto.part ∙ c.requires.1,
)

pub returns : goal.returns
returns c k e =
    let a = c.args in
    let r = c.run_of-run in
    c.settle.ensures
    ∙ covered_words a.theta a.part.now k a.i a.d a.q r.result.n r.result.start c.pow2-n.result c.largest_depth-largest.result c.pow2-m.result
    c.requires.1 c.requires.2 e c.requires.3 c.requires.4 r.ensures.0 r.ensures.1 c.pow2-n.ensures.0
    (entries a.theta a.part.now _ c.requires.2 c.requires.1 c.pow2-n.ensures.0) c.fill.ensures c.largest_depth-largest.ensures c.pow2-m.ensures.0 c.thin.ensures
