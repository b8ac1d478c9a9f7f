-- The reply of crate index's summary.
use mathlib.Core.Path.{sym, ap, ◌∙◌}
use Rattle.index.specs.Answers.{summary_reply}
use Rattle.exports.specs.Reply.{summary_values}
use Rattle.exports.proofs.Laws.{told_of}
use Rattle.exports.proofs.plots_summary.Goals as goal

pub returns-in-Ok : goal.returns-in-Ok
unfolding summary_values
returns-in-Ok c = told_of (λ r. r.number) summary_values _ (sym (ap summary_reply c.in-Ok.is) ∙ c.summary.ensures) c.told.ensures

pub returns-in-Err : goal.returns-in-Err
unfolding summary_values
returns-in-Err c = told_of (λ r. r.number) summary_values _ (sym (ap summary_reply c.in-Err.is) ∙ c.summary.ensures) (rw c.number.ensures at c.told-in-Err.ensures)
