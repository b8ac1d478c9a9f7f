-- The counts, number by number.
use borrow.Author.Rules.{rules}
use Rattle.stretches.proofs.Laws.{taller_by_lem}
use Rattle.stretches.proofs.taller.Statement.{statement}
use Rattle.stretches.proofs.taller.Tie as tie

returns : tie.Need-returns
returns c = taller_by_lem _ _ c.saturating_add.ensures c.saturating_add-2.ensures

pub taller_spec : {M : Type 1} → statement M
taller_spec = tie.close (tie.spec (λ c κs. search rules) (λ c κs. search rules) returns)
