-- A perpetual lease has no balance, any other the quotient.
use borrow.Author.Rules.{rules}
use mathlib.Core.Path.{sym, ◌∙◌}
use Rattle.plot.proofs.Laws.{amount_perpetual}
use Rattle.model.proofs.Laws.{balance_quotient}
use Rattle.model.proofs.balance.Statement.{statement}
use Rattle.model.proofs.balance.Tie as tie

returns : tie.Need-returns-then-days-eq0
returns c = sym (amount_perpetual _ _ _ _ (sym c.widen-days.ensures.0 ∙ c.if-days-eq0.true))

returns_2 : tie.Need-returns
returns_2 c =
    let p = c.before in
    balance_quotient _ _ _ _ p.widen-days.ensures.0 p.days_left.ensures c.wide_product.ensures

pub balance_spec : {M : Type 1} → statement M
balance_spec =
    tie.close
    (tie.spec (λ c κs. search rules) returns (λ c κs. search rules) (λ c κs. search rules) (λ c. search rules) returns_2)
