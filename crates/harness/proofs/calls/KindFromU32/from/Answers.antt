-- Any number past the first nine converts a key.
use native.Mathlib.Omega.{arith}
use Rattle.harness.proofs.CallLaws.{above, converts}
use Rattle.harness.proofs.calls.KindFromU32.from.Goals as goal

pub returns-in_default : goal.returns-in_default
returns-in_default c =
    let h = c.in_default.in_default-own.rest in
    let three = above 2 (above 1 (above 0 (omega arith) h.0.0.0.0.0.0.0.0.1) h.0.0.0.0.0.0.0.1) h.0.0.0.0.0.0.1 in
    let six = above 5 (above 4 (above 3 three h.0.0.0.0.0.1) h.0.0.0.0.1) h.0.0.0.1 in
    converts c.args.number (above 8 (above 7 (above 6 six h.0.0.1) h.0.1) h.1)
