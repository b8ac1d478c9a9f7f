-- The store is kept, the output marked, and the call made.
use borrow.Author.Rules.{rules}
use mathlib.Core.Path.{◌≡◌}
use lib.ListN.{length, replicate}
use Rattle.harness.specs.Calls.{mark}
use Rattle.harness.proofs.CallLaws.{watched_is}
use Rattle.harness.proofs.calls.watched.Goals as goal

pub returns : goal.returns
returns c =
    let out = c.args.out.now in
    let marked : c.fill.new.self ≡ replicate (length out) mark = search (rules, c.fill.ensures.after) in
    watched_is _ _ out marked c.copy.ensures c.reply_to-reply.ensures c.stayed.ensures
