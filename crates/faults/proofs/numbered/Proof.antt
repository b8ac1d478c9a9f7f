-- The number 0 goes with the values that were got; a refusal has none.
use borrow.Author.Rules.{rules}
use Rattle.faults.proofs.Laws.{number_done, number_refused}
use Rattle.faults.proofs.numbered.Statement.{statement}
use Rattle.faults.proofs.numbered.Tie as tie

returns : tie.Need-returns-then-number-eq0
returns c = number_done _ _ c.if-number-eq0.true c.done.ensures

returns_2 : tie.Need-returns
returns_2 c = number_refused _ _ c.if-number-eq0.false c.refusal.ensures

pub numbered_spec : {M : Type 1} → statement M
numbered_spec = tie.close (tie.spec (λ c κs. search rules) returns (λ c κs. search rules) returns_2)
