-- A block's number, its size and the head before it.
use borrow.Author.Rules.{rules}
use Prim.Native.Nat.{◌*◌, ◌^◌, ◌≤◌}
use native.Mathlib.Omega.{arith}
use Rattle.store.proofs.Sizes.{times_lt}
use Rattle.store.proofs.HeadLaws.{node_start_is}
use Rattle.store.proofs.node_start.Statement.{statement}
use Rattle.store.proofs.node_start.Tie as tie

within : (c : tie.After-node_words) → c.from_zero.result * c.node_words.result ≤ 2 ^ 32 * 132
within c = times_lt _ _ (2 ^ 32) 132 c.from_zero.ensures.1 c.node_words.ensures.2

mul_result : tie.Need-overflow_mul-result
mul_result c = omega (arith, within c)

add_result : tie.Need-overflow_add-result
add_result c = omega (arith, within c)

returns : tie.Need-returns
returns c = (node_start_is _ _ _ _ c.from_zero.ensures.0 c.node_words.ensures.0, omega (arith, within c))

pub node_start_spec : {M : Type 1} → statement M
node_start_spec = tie.close (tie.spec (λ c κs. search rules) (λ c κs. search rules) mul_result add_result returns)
