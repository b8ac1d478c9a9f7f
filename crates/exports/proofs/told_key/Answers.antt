-- Each arm is given which case the answer is.
use Rattle.exports.specs.Reply.{key_values}
use Rattle.exports.proofs.told_key.Goals as goal

pub returns-in-Ok : goal.returns-in-Ok
unfolding key_values
returns-in-Ok c = rw c.in-Ok.is c.told.ensures

pub returns-in-Err : goal.returns-in-Err
unfolding key_values
returns-in-Err c = rw c.in-Err.is (rw c.number.ensures at c.told-in-Err.ensures)
