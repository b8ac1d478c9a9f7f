-- `plot::amount_left` meets its contract: days left are at most the lease days, so the quotient has 32 bits; the divisor is 1 where no days
-- can be left.
use borrow.Author.Rules.{rules}
use mathlib.Core.Path.{sym}
use native.Mathlib.Omega.{arith}
use Rattle.plot.proofs.Laws.{share_fits, divisor_fits, last_fits, days_within, amount_share}
use Rattle.plot.proofs.amount_left.Statement.{statement}
use Rattle.plot.proofs.amount_left.Tie as tie

quotient_requires : tie.Need-quotient-requires
quotient_requires c κs =
    let s = c.before.before.before in
    rw (c.max.ensures, c.wide_product.ensures, c.days_left.ensures) (
      omega arith,
      divisor_fits _ _ s.requires,
      share_fits (search rules) (omega (arith, days_within s.args.lease s.args.last s.args.today)) (omega arith),
    )

returns : tie.Need-returns
returns c =
    let b = c.before in
    rw (c.quotient.ensures, b.max.ensures, b.wide_product.ensures, b.days_left.ensures)
    (sym (amount_share _ _ _ _))

pub amount_left_spec : {M : Type 1} → statement M
amount_left_spec =
    tie.close
    (tie.spec (λ c κs. last_fits _ _ c.requires) (λ c κs. search rules) (λ c κs. search rules) quotient_requires returns)
