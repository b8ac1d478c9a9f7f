-- Each bit in which all keys agree with the key is a round more.
use Rattle.std.proofs.Common.{sym, ◌∙◌, ◌≤◌, ◌<◌}
use native.Mathlib.Omega.{arith}
use Rattle.store.specs.Format.{width}
use Rattle.insert.proofs.PlanLaws.{rounds_more, rounds_done, rounds_next, rounds_last, rounds_out}
use Rattle.insert.proofs.rounds_for.Goals as goal

pub returns-then-not-keys_agree : goal.returns-then-not-keys_agree
returns-then-not-keys_agree c =
    let l = c.loop-u in
    let low : c.args.used ≤ l.u = omega arith in
    let below : l.u < width c.args.f = omega arith in
    rounds_done low l.invariant.1 (rounds_last _ _ _ _ below l.invariant.0 (sym c.keys_agree.ensures ∙ c.if-not-keys_agree.true))

pub loop-u-preserved : goal.loop-u-preserved
loop-u-preserved c =
    let l = c.loop-u in
    let low : c.args.used ≤ l.u = omega arith in
    let below : l.u < width c.args.f = omega arith in
    let e = sym c.keys_agree.ensures ∙ c.if-not-keys_agree.false in
    (e, rounds_more low l.invariant.1 (rounds_next _ _ _ _ below l.invariant.0 e))

pub returns : goal.returns
returns c = rounds_out c.args.f _ _ _ _ c.loop-u.invariant.1 (omega arith) (omega arith)
