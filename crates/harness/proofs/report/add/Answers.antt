use borrow.Author.Rules.{rules}
use Rattle.harness.proofs.TallyLaws.{counted_set}
use Rattle.harness.proofs.report.add.Goals as goal

pub returns : goal.returns
returns c = counted_set _ _ c.count.ensures (search rules) c.saturating_add.ensures c.set.ensures
