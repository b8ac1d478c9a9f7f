-- A key that is held, and one that is not.
use borrow.Author.Rules.{rules}
use Rattle.model.proofs.Laws.{find_held, find_none}
use Rattle.model.proofs.find.Statement.{statement}
use Rattle.model.proofs.find.Tie as tie

returns : tie.Need-returns-then-holds
returns c =
    let p = c.before in
    let q = p.before.before in
    find_held _ _ q.holds.ensures q.if-holds.true p.rank.ensures p.record_at.ensures c.held.ensures

returns_2 : tie.Need-returns
returns_2 c =
    let p = c.before in
    find_none _ _ p.holds.ensures p.if-holds.false c.refusal.ensures

pub find_spec : {M : Type 1} → statement M
find_spec =
    tie.close
    (tie.spec (λ c κs. search rules) (λ c κs. search rules) (λ c κs. search rules) (λ c κs. search rules) returns
    (λ c κs. search rules) returns_2)
