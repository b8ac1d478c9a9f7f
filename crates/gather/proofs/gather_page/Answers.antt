-- Each page that is left joins the page in hand.
use Rattle.std.proofs.Common.{[], ◌∙◌, take, arith}
use lib.Seq.{length-take-le}
use Rattle.gather.proofs.GatherLaws.{gathering_start, gathering_room, gathering_on, gathering_out, rest_next, rest_out, all_next}
use Rattle.gather.proofs.gather_page.Goals as goal

pub loop-mate-init : goal.loop-mate-init
loop-mate-init c =
    let a = c.args in
    let p = c.requires in
    let y = c.first_page-hand.ensures in
    record {
      used_up = omega arith;
      few = y.2;
      joinable = p.7;
      whole = λ rs. gathering_start _ _ _ _ a.used a.page rs _ _ _ _ (y.3 a.key a.used rs p.6) p.8;
    }

pub gather_turn-hand-requires : goal.gather_turn-hand-requires
gather_turn-hand-requires c =
    let p = c.requires in
    let v = c.loop-mate.invariant in
    let l = c.loop-mate.auto in
    let y = c.first_page-hand.ensures in
    let t = c.loop-mate-test.true in
    let next = rest_next c.loop-mate.mate-index (take c.args.n c.args.mates.now) t in (
      p.0,
      (all_next _ next v.joinable).0,
      l.items ∙ y.0 ∙ p.9,
      gathering_room _ _ _ _ (v.whole []) next,
      omega (arith, v.few, l.lost, y.1, p.10, t, length-take-le c.args.n c.args.mates.now p.4),
      omega (arith, l.lost, y.1, p.11),
    )

pub loop-mate-preserved : goal.loop-mate-preserved
loop-mate-preserved c =
    let p = c.requires in
    let v = c.loop-mate.invariant in
    let t = c.gather_turn-hand.ensures in
    let next = rest_next c.loop-mate.mate-index (take c.args.n c.args.mates.now) c.loop-mate-test.true in
    record {
      used_up = omega (arith, v.used_up, p.3, c.loop-mate-test.true, length-take-le c.args.n c.args.mates.now p.4);
      few = omega (arith, v.few, t.2);
      joinable = (all_next _ next v.joinable).1;
      whole = λ rs. gathering_on _ _ _ _ (v.whole rs) next c.on_left-side.ensures t.3;
    }

pub returns : goal.returns
returns c =
    let v = c.loop-mate.invariant in
    let l = c.loop-mate.auto in
    let y = c.first_page-hand.ensures in (
      l.items ∙ y.0,
      l.lost ∙ y.1,
      omega (arith, v.few, l.mate-index-end, length-take-le c.args.n c.args.mates.now c.requires.4),
      λ rs. gathering_out _ _ _ _ (v.whole rs) (rest_out c.loop-mate.mate-index (take c.args.n c.args.mates.now) c.loop-mate-test.false),
    )
