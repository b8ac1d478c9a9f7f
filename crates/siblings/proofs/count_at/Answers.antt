-- By its one test.
use Rattle.siblings.proofs.PageLaws.{count_null, count_some}
use Rattle.siblings.proofs.count_at.Goals as goal

pub returns-then-p-eq0 : goal.returns-then-p-eq0
returns-then-p-eq0 c = count_null _ _ _ _ c.if-p-eq0.true

pub returns : goal.returns
returns c = count_some _ _ _ _ c.if-p-eq0.false c.requires.2 c.page_at.ensures c.count_of.ensures.0
