-- The line so far is gathered; it is answered where it ends.
use Rattle.std.proofs.Common.{arith}
use Rattle.desk.proofs.ServeLaws.{serves_gathered, serves_answered, line_gets_on}
use Rattle.desk.proofs.take_line.Goals as goal

pub returns-then-n-input : goal.returns-then-n-input
returns-then-n-input c =
    let u = c.until_feed-n.ensures in
    let g = c.add_to-next.ensures in (
      serves_gathered _ _ _ _ _ c.requires.1 u.0 g.0 _ u.1 g.1,
      line_gets_on _ _ (omega (arith, c.if-n-input.true, c.requires.2)),
    )

pub returns : goal.returns
returns c =
    let u = c.until_feed-n.ensures in
    let s = c.answer_line.ensures in (
      serves_answered _ _ _ _ _ c.requires.1 u.0 c.add_to-next.ensures.0 _ _ _ _ (omega (arith, u.1, c.if-n-input.false)) s,
      line_gets_on _ _ (omega (arith, s.taken)),
    )
