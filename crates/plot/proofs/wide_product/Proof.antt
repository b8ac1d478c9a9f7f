-- `plot::wide_product` meets its contract: the product of two numbers of 32 bits has at most 64.
use borrow.Author.Rules.{rules}
use Rattle.plot.proofs.Laws.{product_below}
use Rattle.plot.proofs.wide_product.Statement.{statement}
use Rattle.plot.proofs.wide_product.Tie as tie

mul_result : tie.Need-overflow_mul-result
mul_result c = record { fits = product_below 32 (search rules) (search rules) }

pub wide_product_spec : {M : Type 1} → statement M
wide_product_spec = tie.close (tie.spec mul_result (λ c. search rules))
