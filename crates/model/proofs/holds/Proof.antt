-- The two tests of the definition.
use borrow.Author.Rules.{rules}
use Rattle.model.proofs.Laws.{holds_if, holds_not}
use Rattle.model.proofs.holds.Statement.{statement}
use Rattle.model.proofs.holds.Tie as tie

returns : tie.Need-returns-then-key-ne0
returns c =
    let p = c.before.before in
    holds_if _ _ p.if-key-ne0.true p.rank.ensures c.record_at.ensures

returns_2 : tie.Need-returns-else-key-ne0
returns_2 c = holds_not _ _ c.if-key-ne0.false

pub holds_spec : {M : Type 1} → statement M
holds_spec =
    tie.close
    (tie.spec (λ c κs. search rules) (λ c κs. search rules) returns returns_2)
