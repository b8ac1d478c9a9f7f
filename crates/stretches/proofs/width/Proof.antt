-- One shifted by the bits left is a power of two.
use borrow.Author.Rules.{rules}
use mathlib.Core.Path.{ap, ◌∙◌}
use Prim.Native.Nat.{◌^◌}
use native.Mathlib.Omega.{arith}
use Rattle.lists.proofs.Shifts.{shl_one, pow_within}
use Rattle.stretches.proofs.width.Statement.{statement}
use Rattle.stretches.proofs.width.Tie as tie

returns : tie.Need-returns
returns c =
    let d = c.saturating_sub in
    let e = shl_one d.result 64 (omega (arith, d.ensures)) in
    (e ∙ ap (λ k. 2 ^ k) d.ensures, (pow_within _ d.result 32 e (omega (arith, d.ensures))).1)

pub width_spec : {M : Type 1} → statement M
width_spec = tie.close (tie.spec (λ c κs. search rules) (λ c. search rules) (λ c. search rules) returns)
