-- The values so far are written.
use Rattle.std.proofs.Common.{◌≡◌, length, take}
use Rattle.exports.specs.Reply.{filled}
use Rattle.exports.proofs.told.Given as goal

abbrev pub invariant-loop-i : goal.invariant-loop-i
invariant-loop-i l = l.reply ≡ filled (take l.i l.values) l.initial.reply
