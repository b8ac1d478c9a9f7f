-- The three words that are written are those of one stretch more.
use borrow.Author.Rules.{rules}
use Rattle.stretches.proofs.Laws.{stretch_put}
use Rattle.stretches.proofs.append.Statement.{statement}
use Rattle.stretches.proofs.append.Tie as tie

returns : tie.Need-returns
returns c =
    let p3 = c.before.before in
    let s = p3.before in
    let p2 = s.before.before.before.before in
    let p1 = p2.before.before.before.before in
    let i = p1.before.before in
    stretch_put _ _ _ i.word-n.ensures i.to_index.ensures.0 p1.put.ensures p2.put-2.ensures s.saturating_add.ensures
    p3.put-3.ensures

pub append_spec : {M : Type 1} → statement M
append_spec =
    tie.close
    (tie.spec (λ c κs. search rules) (λ c κs. search rules) (λ c. search rules) (λ c. search rules) (λ c κs. search rules)
    (λ c. search rules) (λ c κs. search rules) (λ c κs. search rules) (λ c κs. search rules) (λ c. search rules) returns)
