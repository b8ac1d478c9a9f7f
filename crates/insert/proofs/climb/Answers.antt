-- Level by level: a node with room ends the climb, a full one splits; above the last level stands a new root.
use Rattle.std.proofs.Common.{◌∙◌}
use native.Mathlib.Omega.{arith}
use lib.ListN.{get_or}
use Rattle.search.specs.Descent.{no_step}
use Rattle.insert.specs.Enter.{place_of, places}
use Rattle.insert.proofs.SplitCode.{grown_block_lem, grow_needs, left_used, left_depth}
use Rattle.insert.proofs.ClimbCode.{climb_ready, climb_more, climb_stops, climb_on, climb_short, climb_tops, one_first}
use Rattle.insert.proofs.climb.Goals as goal

pub grow_block-requires : goal.grow_block-requires
grow_block-requires c =
    let l = c.loop-i in
    let w = l.invariant.1 in
    let y = climb_ready _ _ _ _ _ _ _ _ _ _ _ _ _ w (omega arith) in
    grow_needs _ _ _ (get_or l.steps l.i no_step) y c.requires.1 _ w.head_is c.if-t-h.true

pub deeper-requires : goal.deeper-requires
deeper-requires c =
    let l = c.loop-i in
    left_depth _ _ _ (get_or l.steps l.i no_step) (climb_ready _ _ _ _ _ _ _ _ _ _ _ _ _ l.invariant.1 (omega arith))

pub returns-then-t-h : goal.returns-then-t-h
returns-then-t-h c =
    let l = c.loop-i in
    let w = l.invariant.1 in
    climb_stops _ _ _ _ _ _ _ _ _ _ _ _ _ w (omega arith) c.deeper.result _ c.if-t-h.true
    (c.grow_block.ensures ∙ grown_block_lem _ _ (place_of _ _ (get_or l.steps l.i no_step)) _ _ _ w.head_is) (c.deeper.ensures _ _)

pub split_at-g-requires : goal.split_at-g-requires
split_at-g-requires c =
    let w = c.loop-i.invariant.1 in
    let m = climb_more _ _ _ _ _ _ _ _ _ _ _ _ _ w (omega arith) (omega arith) in
    (w.head_is, c.requires.1, climb_ready _ _ _ _ _ _ _ _ _ _ _ _ _ w (omega arith), omega arith, m.0, m.1)

pub in_half-requires : goal.in_half-requires
in_half-requires c =
    let l = c.loop-i in
    left_used _ _ _ (get_or l.steps l.i no_step) (climb_ready _ _ _ _ _ _ _ _ _ _ _ _ _ l.invariant.1 (omega arith))

pub loop-i-preserved : goal.loop-i-preserved
loop-i-preserved c =
    let g = c.split_at-g in
    let l = c.loop-i.invariant in (
      g.auto.store ∙ l.0,
      climb_on _ _ _ _ _ _ _ _ _ _ _ _ _ l.1 (omega arith) c.in_half.result _ _ _ (omega arith) g.ensures.0 g.ensures.1 g.ensures.2
          c.in_half.ensures,
    )

pub bounds-steps-n : goal.bounds-steps-n
bounds-steps-n c =
    let a = c.args in
    climb_short _ _ _ _ _ _ _ _ _ _ _ _ _ c.loop-i.invariant.1 (omega arith)
    (one_first (places a.f a.key a.head.levels a.path) _ 31 c.requires.3)

pub returns : goal.returns
returns c =
    let a = c.args in
    let n = c.new_root-h in
    climb_tops _ _ _ _ _ _ _ _ _ _ _ _ _ c.loop-i.invariant.1 (omega arith) _ _
    (one_first (places a.f a.key a.head.levels a.path) _ 31 c.requires.3) n.ensures.0 n.ensures.1
