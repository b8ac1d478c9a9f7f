-- Each kind by its own reply.
use mathlib.Core.Path.{◌∙◌}
use Rattle.model.specs.Model.{model_reply}
use Rattle.model.proofs.Laws.{other_reading}
use Rattle.model.proofs.reply_to.Goals as goal

pub returns-in-Find : goal.returns-in-Find
unfolding model_reply
returns-in-Find c = rw c.in-Find.is c.find.ensures

pub returns-in-Next : goal.returns-in-Next
unfolding model_reply
returns-in-Next c = rw c.in-Next.is c.next.ensures

pub returns-in-Range : goal.returns-in-Range
unfolding model_reply
returns-in-Range c = rw c.in-Range.is c.range.ensures

pub returns-in_default : goal.returns-in_default
unfolding model_reply
returns-in_default c =
    let d = c.in_default in
    c.summary.ensures ∙ other_reading c.args.call.kind _ _ _ d.not-Find d.not-Next d.not-Range
