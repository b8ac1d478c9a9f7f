-- Two products of bounded numbers.
use borrow.Author.Rules.{rules}
use Prim.Native.Nat.{◌+◌, ◌*◌, ◌≤◌}
use native.Mathlib.Omega.{arith}
use Rattle.store.proofs.Sizes.{times_le}
use Rattle.store.proofs.HeadLaws.{size_is}
use Rattle.store.proofs.size_of.Statement.{statement}
use Rattle.store.specs.Head.{largest_capacity}
use Rattle.store.proofs.size_of.Tie as tie

nodes : (c : tie.After-node_words) → c.to_index.result * c.node_words.result ≤ 4096 * 132
nodes c = times_le _ _ 4096 132 (omega arith) c.node_words.ensures.2

pages : (c : tie.After-page_words) → c.to_index-2.result * c.page_words.result ≤ 4096 * (1 + 4 * largest_capacity)
pages c = times_le _ _ 4096 (1 + 4 * largest_capacity) (omega arith) c.page_words.ensures.1

mul_result : tie.Need-overflow_mul-result
mul_result c = omega (arith, nodes c)

add_result : tie.Need-overflow_add-result
add_result c = omega (arith, nodes c)

mul_result_2 : tie.Need-overflow_mul-result-2
mul_result_2 c = omega (arith, pages c)

add_result_2 : tie.Need-overflow_add-result-2
add_result_2 c = omega (arith, nodes c.before.before, pages c)

returns : tie.Need-returns
returns c =
    let p = c.before.before in (
      size_is _ _ _ _ _ _ _ _ _ p.to_index.ensures.0 p.node_words.ensures.0 c.to_index-2.ensures.0
          c.page_words.ensures.0,
      omega (arith, nodes p, pages c),
    )

pub size_of_spec : {M : Type 1} → statement M
size_of_spec =
    tie.close
    (tie.spec (λ c κs. search rules) (λ c κs. search rules) mul_result add_result (λ c κs. search rules) (λ c κs. search rules) mul_result_2
    add_result_2 returns)
