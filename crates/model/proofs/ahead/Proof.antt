-- The two tests of the definition.
use borrow.Author.Tests.{eq-eqb, ne_eqb}
use Rattle.raw.proofs.Steps.{first_arm, second_arm}
use Rattle.model.specs.Model.{ahead_of}
use Rattle.model.proofs.ahead.Statement.{statement}
use Rattle.model.proofs.ahead.Tie as tie

returns : tie.Need-returns-then-plot-sheet
unfolding ahead_of
returns c = first_arm _ _ _ (eq-eqb _ _ c.if-plot-sheet.true)

returns_2 : tie.Need-returns
unfolding ahead_of
returns_2 c = second_arm _ _ _ (ne_eqb _ _ c.if-plot-sheet.false)

pub ahead_spec : {M : Type 1} → statement M
ahead_spec = tie.close (tie.spec returns returns_2)
