-- One shifted by k is 2^k.
use borrow.Author.Rules.{rules}
use Rattle.lists.proofs.Shifts.{shl_one, pow_within}
use native.Mathlib.Omega.{arith}
use Rattle.store.proofs.pow2.Statement.{statement}
use Rattle.store.proofs.pow2.Tie as tie

returns : tie.Need-returns
returns c =
    let e = shl_one c.args.k 64 (omega arith) in
    let b = pow_within _ c.args.k 6 e c.requires in
    (e, b.0, b.1)

pub pow2_spec : {M : Type 1} → statement M
pow2_spec = tie.close (tie.spec (λ c. search rules) returns)
