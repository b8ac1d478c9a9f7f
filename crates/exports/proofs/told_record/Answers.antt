-- Each arm is given which case the answer is.
use mathlib.Core.Path.{◌∙◌, ap}
use Rattle.std.specs.Prelude.{Ok}
use Rattle.exports.specs.Reply.{record_values}
use Rattle.exports.proofs.told_record.Goals as goal

pub returns-in-Ok-Some : goal.returns-in-Ok-Some
unfolding record_values
returns-in-Ok-Some c =
    let e = c.in-Ok-Some.is ∙ ap Ok (rw c.in-Ok-Some.is at c.in-Ok-Some.field-0-is) in
    rw e c.told.ensures

pub returns-in-Ok-None : goal.returns-in-Ok-None
unfolding record_values
returns-in-Ok-None c =
    let e = c.in-Ok-None.is ∙ ap Ok (rw c.in-Ok-None.is at c.in-Ok-None.field-0-is) in
    rw e c.told-in-Ok-None.ensures

pub returns-in-Err : goal.returns-in-Err
unfolding record_values
returns-in-Err c = rw c.in-Err.is (rw c.number.ensures at c.told-in-Err.ensures)
