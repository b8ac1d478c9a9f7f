-- The reply of crate index's label_of.
use mathlib.Core.Path.{sym, ap, ◌∙◌}
use Rattle.plot.specs.Label.{label_reply}
use Rattle.exports.specs.Reply.{label_values}
use Rattle.exports.proofs.Laws.{told_of}
use Rattle.exports.proofs.plots_label_of.Goals as goal

pub returns-in-Ok : goal.returns-in-Ok
unfolding label_values
returns-in-Ok c = told_of (λ r. r.number) label_values _ (sym (ap label_reply c.in-Ok.is) ∙ c.label_of.ensures) c.told.ensures

pub returns-in-Err : goal.returns-in-Err
unfolding label_values
returns-in-Err c = told_of (λ r. r.number) label_values _ (sym (ap label_reply c.in-Err.is) ∙ c.label_of.ensures) (rw c.number.ensures at c.told-in-Err.ensures)
