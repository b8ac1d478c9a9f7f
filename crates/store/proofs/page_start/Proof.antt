-- Two products of bounded numbers.
use borrow.Author.Rules.{rules}
use Prim.Native.Nat.{◌+◌, ◌*◌, ◌^◌, ◌≤◌}
use native.Mathlib.Omega.{arith}
use Rattle.store.proofs.Sizes.{times_lt}
use Rattle.store.proofs.HeadLaws.{page_start_is}
use Rattle.store.proofs.page_start.Statement.{statement}
use Rattle.store.specs.Head.{largest_capacity}
use Rattle.store.proofs.page_start.Tie as tie

nodes : (c : tie.After-node_words) → c.to_index.result * c.node_words.result ≤ 2 ^ 32 * 132
nodes c = times_lt _ _ (2 ^ 32) 132 c.to_index.ensures.1 c.node_words.ensures.2

pages : (c : tie.After-page_words) → c.from_zero.result * c.page_words.result ≤ 2 ^ 32 * (1 + 4 * largest_capacity)
pages c = times_lt _ _ (2 ^ 32) (1 + 4 * largest_capacity) c.from_zero.ensures.1 c.page_words.ensures.1

mul_result : tie.Need-overflow_mul-result
mul_result c = omega (arith, nodes c)

add_result : tie.Need-overflow_add-result
add_result c = omega (arith, nodes c)

mul_result_2 : tie.Need-overflow_mul-result-2
mul_result_2 c = omega (arith, pages c)

add_result_2 : tie.Need-overflow_add-result-2
add_result_2 c = omega (arith, nodes c.before.before, pages c)

returns : tie.Need-returns
returns c =
    let p = c.before.before in (
      page_start_is _ _ _ _ _ _ _ p.to_index.ensures.0 p.node_words.ensures.0 c.from_zero.ensures.0
          c.page_words.ensures.0,
      omega (arith, nodes p, pages c),
    )

pub page_start_spec : {M : Type 1} → statement M
page_start_spec =
    tie.close
    (tie.spec (λ c κs. search rules) (λ c κs. search rules) mul_result add_result (λ c κs. search rules) (λ c κs. search rules) mul_result_2
    add_result_2 returns)
