-- The reply of crate index's range, and the words that it writes.
use mathlib.Core.Path.{sym, ap, ◌∙◌}
use Rattle.index.specs.Answers.{range_reply}
use Rattle.exports.specs.Reply.{range_values}
use Rattle.exports.proofs.Laws.{told_words}
use Rattle.exports.proofs.plots_range.Goals as goal

pub returns-in-Ok : goal.returns-in-Ok
unfolding range_values
returns-in-Ok c = told_words (λ r. r.number) range_values _ (sym (ap range_reply c.in-Ok.is) ∙ c.range.ensures.0) c.range.ensures.1 c.told.ensures

pub returns-in-Err : goal.returns-in-Err
unfolding range_values
returns-in-Err c = told_words (λ r. r.number) range_values _ (sym (ap range_reply c.in-Err.is) ∙ c.range.ensures.0) c.range.ensures.1 (rw c.number.ensures at c.told-in-Err.ensures)
