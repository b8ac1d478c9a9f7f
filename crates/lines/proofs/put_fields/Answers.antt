-- The line is filled from the front, part by part.
use Rattle.std.proofs.Common.{refl, rules}
use Rattle.lines.proofs.WriteLaws.{fields_put}
use Rattle.lines.proofs.put_fields.Goals as goal

pub returns : goal.returns
returns c = (refl, fields_put _ _ _ _ _ _ _ _ _ _ (search rules) c.put_two.ensures c.put_two-2.ensures c.put_two-3.ensures)
