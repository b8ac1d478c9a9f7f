-- A refusal stands where a limit is broken, and elsewhere the amount.
use mathlib.Core.Path.{sym, ◌∙◌}
use Rattle.plot.proofs.Laws.{term_refused, today_refused, balance_given}
use Rattle.plot.proofs.balance.Goals as goal

pub returns-then-not-lawful_term : goal.returns-then-not-lawful_term
returns-then-not-lawful_term c = term_refused _ _ _ _ (sym c.lawful_term.ensures ∙ c.if-not-lawful_term.true)

pub returns-then-not-lawful_day : goal.returns-then-not-lawful_day
returns-then-not-lawful_day c = today_refused _ _ _ _ (sym c.lawful_day.ensures ∙ c.if-not-lawful_day.true)

pub returns : goal.returns
returns c =
    balance_given _ _ _ _ (sym c.lawful_term.ensures ∙ c.if-not-lawful_term.false)
    (sym c.lawful_day.ensures ∙ c.if-not-lawful_day.false) c.amount_left.ensures
