-- The values so far are written; a value past the words is left out.
use native.Mathlib.Omega.{arith}
use Rattle.exports.proofs.Laws.{filled_none, filled_more, filled_past}
use Rattle.exports.proofs.told.Goals as goal

pub loop-i-init : goal.loop-i-init
loop-i-init c = filled_none c.args.values.now c.args.reply.now

pub loop-i-preserved : goal.loop-i-preserved
loop-i-preserved c = grind (arith, filled_more, filled_past)
