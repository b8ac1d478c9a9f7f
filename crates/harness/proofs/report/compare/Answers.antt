-- A trial whether two replies are the same.
use Rattle.harness.specs.Calls.{same_reply}
use Rattle.harness.proofs.TallyLaws.{compared_same, compared_other}
use Rattle.harness.proofs.report.compare.Goals as goal

pub returns-then-failure : goal.returns-then-failure
unfolding same_reply
returns-then-failure g c = compared_other _ c.args.expected c.args.got c.ne.ensures c.add.ensures c.if-ne.true c.failure.ensures.1

pub returns-else-failure : goal.returns-else-failure
unfolding same_reply
returns-else-failure g c = compared_other _ c.args.expected c.args.got c.ne.ensures c.add.ensures c.if-ne.true c.failure.ensures.1

pub returns-else-ne : goal.returns-else-ne
unfolding same_reply
returns-else-ne g c = compared_same _ c.args.expected c.args.got c.ne.ensures c.add.ensures c.if-ne.false
