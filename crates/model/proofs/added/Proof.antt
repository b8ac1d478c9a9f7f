-- The sheet with the record as its first, and the sheet that keeps its first.
use borrow.Author.Rules.{rules}
use Rattle.model.proofs.Laws.{added_first, added_later}
use Rattle.model.proofs.added.Statement.{statement}
use Rattle.model.proofs.added.Tie as tie

returns : tie.Need-returns-then-earlier
returns c =
    let p = c.before in
    let q = p.before.before in
    added_first _ _ _ q.saturating_add-count.ensures p.balance.ensures p.saturating_add-total.ensures q.ahead.ensures c.if-earlier.true

returns_2 : tie.Need-returns
returns_2 c =
    let p = c.before in
    let q = p.before.before in
    added_later _ _ _ q.saturating_add-count.ensures p.balance.ensures p.saturating_add-total.ensures q.ahead.ensures c.if-earlier.false

pub added_spec : {M : Type 1} → statement M
added_spec =
    tie.close
    (tie.spec (λ c κs. search rules) (λ c κs. search rules) (λ c κs. search rules) (λ c κs. search rules) returns returns_2)
