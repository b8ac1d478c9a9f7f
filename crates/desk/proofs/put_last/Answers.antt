-- A line for a range, none for the register.
use Rattle.desk.proofs.LineLaws.{last_line_lem}
use Rattle.desk.proofs.put_last.Goals as goal

pub returns : goal.returns
returns c = let a = c.args in last_line_lem a.dump a.count a.out.now _ _ c.requires c.write.ensures.0 c.write.ensures.1 c.if-dump.false
