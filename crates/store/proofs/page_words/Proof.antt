-- At most four words for each record of the largest capacity.
use borrow.Author.Rules.{rules}
use Prim.Native.Nat.{◌*◌, ◌≤◌}
use native.Mathlib.Omega.{arith}
use Rattle.store.specs.Head.{largest_capacity}
use Rattle.store.proofs.Sizes.{times_le}
use Rattle.store.proofs.HeadLaws.{page_words_is}
use Rattle.store.proofs.page_words.Statement.{statement}
use Rattle.store.proofs.page_words.Tie as tie

within : (c : tie.After-to_index) → c.words_of.result * c.to_index.result ≤ 4 * largest_capacity
within c = times_le _ _ 4 largest_capacity c.words_of.ensures.2 (omega arith)

mul_result : tie.Need-overflow_mul-result
mul_result c = omega (arith, within c)

add_result : tie.Need-overflow_add-result
add_result c = omega (arith, within c)

returns : tie.Need-returns
returns c = (page_words_is _ _ _ _ c.words_of.ensures.0 c.to_index.ensures.0, omega (arith, within c))

pub page_words_spec : {M : Type 1} → statement M
page_words_spec = tie.close (tie.spec (λ c κs. search rules) (λ c κs. search rules) mul_result add_result returns)
