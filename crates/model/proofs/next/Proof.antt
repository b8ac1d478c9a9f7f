-- A record after the key, and none.
use borrow.Author.Rules.{rules}
use Rattle.model.proofs.Laws.{next_held, next_none}
use Rattle.model.proofs.next.Statement.{statement}
use Rattle.model.proofs.next.Tie as tie

returns : tie.Need-returns-then-at-size
returns c =
    let p = c.before in
    let q = p.before.before in
    next_held _ _ q.rank_after-at.ensures q.size.ensures p.if-at-size.true p.record_at.ensures c.held.ensures

returns_2 : tie.Need-returns
returns_2 c =
    let p = c.before in
    next_none _ _ p.rank_after-at.ensures p.size.ensures p.if-at-size.false c.refusal.ensures

pub next_spec : {M : Type 1} → statement M
next_spec =
    tie.close
    (tie.spec (λ c κs. search rules) (λ c κs. search rules) (λ c κs. search rules) (λ c κs. search rules) returns
    (λ c κs. search rules) returns_2)
