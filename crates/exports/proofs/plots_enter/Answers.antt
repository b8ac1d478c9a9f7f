-- The reply of crate index's enter, and the words that it writes.
use mathlib.Core.Path.{sym, ap, ◌∙◌}
use Rattle.index.specs.Answers.{enter_reply}
use Rattle.exports.specs.Reply.{enter_values}
use Rattle.exports.proofs.Laws.{told_words}
use Rattle.exports.proofs.plots_enter.Goals as goal

pub returns-in-Ok : goal.returns-in-Ok
unfolding enter_values
returns-in-Ok c = told_words (λ r. r.number) enter_values _ (sym (ap enter_reply c.in-Ok.is) ∙ c.enter.ensures.0) c.enter.ensures.1 c.told.ensures

pub returns-in-Err : goal.returns-in-Err
unfolding enter_values
returns-in-Err c = told_words (λ r. r.number) enter_values _ (sym (ap enter_reply c.in-Err.is) ∙ c.enter.ensures.0) c.enter.ensures.1 (rw c.number.ensures at c.told-in-Err.ensures)
