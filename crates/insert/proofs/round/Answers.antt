-- Level 1 has room, or it splits and the climb goes on.
use Rattle.std.proofs.Common.{◌∙◌}
use lib.ListN.{get_or}
use Rattle.search.specs.Descent.{no_step}
use Rattle.insert.specs.Enter.{place_of}
use Rattle.insert.proofs.SplitCode.{grown_block_lem, grow_needs, left_depth}
use Rattle.insert.proofs.RoundCode.{round_ready, round_stops, round_more, round_behind, round_climbs, round_ends}
use Rattle.insert.proofs.round.Goals as goal

pub grow_block-requires : goal.grow_block-requires
grow_block-requires c =
    let a = c.args in
    let p = c.requires in
    let y = round_ready _ _ _ _ _ a.left a.right p.0 p.2 in
    grow_needs _ _ _ (get_or a.path 0 no_step) y p.1 _ p.0.head_is c.if-t-head.true

pub deeper-requires : goal.deeper-requires
deeper-requires c =
    let a = c.args in
    let p = c.requires in
    left_depth _ _ _ (get_or a.path 0 no_step) (round_ready _ _ _ _ _ a.left a.right p.0 p.2)

pub returns-then-t-head : goal.returns-then-t-head
returns-then-t-head c =
    let p = c.requires in
    round_stops _ _ _ _ _ _ _ p.0 p.2 c.deeper.result _ c.if-t-head.true
    (c.grow_block.ensures ∙ grown_block_lem _ _ (place_of _ _ (get_or c.args.path 0 no_step)) _ _ _ p.0.head_is) (c.deeper.ensures _ _)

pub split_first-g-requires : goal.split_first-g-requires
split_first-g-requires c =
    let a = c.args in
    let p = c.requires in
    let o = c.if-t-head.false in
    let more = round_more _ _ _ _ _ a.left a.right p.0 p.2 o in (
      p.0.head_is,
      p.1,
      round_ready _ _ _ _ _ a.left a.right p.0 p.2,
      o,
      more.0,
      more.1,
      round_behind _ _ _ _ _ a.left a.right p.0 p.2,
    )

pub climb-requires : goal.climb-requires
climb-requires c =
    let g = c.split_first-g.ensures in
    let p = c.requires in
    let r =
    round_climbs _ _ _ _ _ _ _ p.0 p.2 c.in_half.result _ _ _ c.if-t-head.false g.0 g.1 g.2 c.in_half.ensures p.3 in
    (r.0, p.1, r.1, r.2)

pub returns : goal.returns
returns c =
    let g = c.split_first-g.ensures in
    let p = c.requires in
    let u = c.climb in
    let e = u.ensures in
    let r =
    round_ends _ _ _ _ _ _ _ p.0 p.2 c.in_half.result _ _ _ u.result.head u.result.steps _ c.if-t-head.false g.0 g.1 g.2
    c.in_half.ensures e.1 e.2 in
    (e.0, r.0, r.1)
