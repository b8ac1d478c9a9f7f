-- A trial is counted, and a failure is counted once more, whether it is printed or not.
use borrow.Author.Tests.{not-true, not-false}
use Rattle.harness.proofs.TallyLaws.{tried_held, tried_failed}
use Rattle.harness.proofs.report.hold.Goals as goal

pub returns-then-failure : goal.returns-then-failure
returns-then-failure g c =
    tried_failed _ _ (not-true _ c.if-not-holds.true-raw) c.add.ensures c.failure.ensures.1

pub returns-else-failure : goal.returns-else-failure
returns-else-failure g c =
    tried_failed _ _ (not-true _ c.if-not-holds.true-raw) c.add.ensures c.failure.ensures.1

pub returns-else-not-holds : goal.returns-else-not-holds
returns-else-not-holds g c = tried_held _ _ (not-false _ c.if-not-holds.false-raw) c.add.ensures
