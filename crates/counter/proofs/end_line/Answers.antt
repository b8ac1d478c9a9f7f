-- The reply to an unfinished line stands at the front of the output.
use Rattle.std.proofs.Common.{◌≡◌, ◌≤◌, arith, sym, length, rules}
use Rattle.std.proofs.Math.Seq.{length-take-le}
use Rattle.desk.proofs.LineLaws.{finished_within}
use Rattle.counter.proofs.Laws.{ending_put}
use Rattle.counter.proofs.end_line.Goals as goal

pub slice_bounds-hand_on-end : goal.slice_bounds-hand_on-end
slice_bounds-hand_on-end g c =
    let f = c.finish-put in
    omega (arith, finished_within _ _ f.ensures.0, f.auto.out)

pub slice_bounds-hand_on-end-2 : goal.slice_bounds-hand_on-end-2
slice_bounds-hand_on-end-2 g c =
    let f = c.finish-put in
    let within : f.result ≤ length f.new.out = omega (arith, finished_within _ _ f.ensures.0, f.auto.out) in
    sym (length-take-le _ _ within)

pub returns-clause-last : goal.returns-clause-last
returns-clause-last g c =
    let f = c.finish-put in
    let long : length c.args.d.line ≡ 43 = search rules in
    (f.result, ending_put c.args.d _ _ _ long c.requires f.ensures.0 f.ensures.1, c.hand_on.ensures.sent)
