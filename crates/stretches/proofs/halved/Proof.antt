-- The rule of level 0, and that of the levels above.
use borrow.Author.Rules.{rules}
use Rattle.stretches.proofs.Laws.{halved_first, halved_above}
use Rattle.stretches.proofs.halved.Statement.{statement}
use Rattle.stretches.proofs.halved.Tie as tie

returns : tie.Need-returns-then-rule-eq-LEVEL_0
returns c = halved_first _ _ _ _ _ c.if-rule-eq-LEVEL_0.true c.crowded.ensures

returns_2 : tie.Need-returns
returns_2 c = halved_above _ _ _ _ _ c.if-rule-eq-LEVEL_0.false c.deep.ensures

pub halved_spec : {M : Type 1} → statement M
halved_spec = tie.close (tie.spec (λ c κs. search rules) returns (λ c κs. search rules) returns_2)
