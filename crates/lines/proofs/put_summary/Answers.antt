-- The line is filled from the front, part by part.
use Rattle.std.proofs.Common.{refl, rules}
use Rattle.lines.proofs.WriteLaws.{summary_put}
use Rattle.lines.proofs.put_summary.Goals as goal

pub returns : goal.returns
returns c = (refl, summary_put _ _ _ _ _ _ _ _ (search rules) (rw c.number.ensures at c.put_two.ensures) (rw c.from.ensures at c.put.ensures) c.put-2.ensures (rw c.from-2.ensures at c.put-3.ensures))
