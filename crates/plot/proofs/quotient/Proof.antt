-- `plot::quotient` meets its contract: the quotient is raised by 2^32, as the dividend is by that times the divisor.
use borrow.Author.Rules.{rules}
use mathlib.Core.Path.{◌≡◌}
use Prim.Native.Nat.{◌+◌, ◌*◌, ◌/◌, ◌<◌, ◌^◌}
use native.Mathlib.Nat.{mul-add-div}
use native.Mathlib.Omega.{arith}
use Rattle.plot.proofs.Laws.{quotient_below}
use Rattle.plot.proofs.quotient.Statement.{statement}
use Rattle.plot.proofs.quotient.Tie as tie

module _ (c : tie.Start) where
  raised : (c.args.by * 4294967296 + c.args.product) / c.args.by ≡ 4294967296 + c.args.product / c.args.by
  raised = mul-add-div c.requires.0 4294967296 c.args.product

  whole : c.args.product / c.args.by < 2 ^ 32
  whole = quotient_below _ _ c.requires.0 c.requires.2

mul_result : tie.Need-overflow_mul-result
mul_result c = record { fits = omega (arith, c.requires.1) }

add_result : tie.Need-overflow_add-result
add_result c = record { fits = omega (arith, c.requires.1, c.requires.2) }

sub_result : tie.Need-overflow_sub-result
sub_result c = omega (arith, raised c)

cast_result : tie.Need-overflow_cast-result
cast_result c = record { fits = omega (arith, raised c, whole c) }

returns : tie.Need-returns
returns c = omega (arith, raised c)

pub quotient_spec : {M : Type 1} → statement M
quotient_spec = tie.close (tie.spec mul_result add_result (λ c. search rules) sub_result cast_result returns)
