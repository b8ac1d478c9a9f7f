-- Each arm is the definition's.
use mathlib.Core.Path.{refl}
use Rattle.harness.specs.Calls.{ran_of}
use Rattle.harness.proofs.calls.call_with.Goals as goal

pub returns-in-SetUp : goal.returns-in-SetUp
unfolding ran_of
returns-in-SetUp c = let e = c.plots_set_up.ensures in rw c.in-SetUp.is (e.0, e.1, refl, e.2)

pub returns-in-Enter : goal.returns-in-Enter
unfolding ran_of
returns-in-Enter c = let e = c.plots_enter.ensures in rw c.in-Enter.is (e.0, e.1, refl, e.2)

pub returns-in-Find : goal.returns-in-Find
unfolding ran_of
returns-in-Find c = let e = c.plots_find.ensures in rw c.in-Find.is (e.0, refl, refl, e.1)

pub returns-in-Next : goal.returns-in-Next
unfolding ran_of
returns-in-Next c = let e = c.plots_next.ensures in rw c.in-Next.is (e.0, refl, refl, e.1)

pub returns-in-Range : goal.returns-in-Range
unfolding ran_of
returns-in-Range c = let e = c.plots_range.ensures in rw c.in-Range.is (e.0, refl, e.1, e.2)

pub returns-in-Summary : goal.returns-in-Summary
unfolding ran_of
returns-in-Summary c = let e = c.plots_summary.ensures in rw c.in-Summary.is (e.0, refl, refl, e.1)

pub returns-in-Balance : goal.returns-in-Balance
unfolding ran_of
returns-in-Balance c = let e = c.plots_balance.ensures in rw c.in-Balance.is (e.0, refl, refl, e.1)

pub returns-in-KeyOf : goal.returns-in-KeyOf
unfolding ran_of
returns-in-KeyOf c = let e = c.plots_key_of.ensures in rw c.in-KeyOf.is (e.0, refl, refl, e.1)

pub returns-in-LabelOf : goal.returns-in-LabelOf
unfolding ran_of
returns-in-LabelOf c = let e = c.plots_label_of.ensures in rw c.in-LabelOf.is (e.0, refl, refl, e.1)

pub returns-in-Convert : goal.returns-in-Convert
unfolding ran_of
returns-in-Convert c = let e = c.plots_convert.ensures in rw c.in-Convert.is (e.0, refl, refl, e.1)
