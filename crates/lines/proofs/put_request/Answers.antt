-- The line is filled from the front, part by part.
use Rattle.std.proofs.Common.{refl, rules}
use Rattle.lines.proofs.WriteLaws.{request_put}
use Rattle.lines.proofs.put_request.Goals as goal

pub returns : goal.returns
returns c = (refl, request_put _ _ _ _ _ _ _ _ _ (search rules) (rw (c.from.ensures, c.number.ensures) at c.put.ensures) c.put_two.ensures c.put_two-2.ensures)
