-- The record, word by word.
use borrow.Author.Rules.{rules}
use Rattle.model.proofs.Laws.{record_put}
use Rattle.model.proofs.put_record.Statement.{statement}
use Rattle.model.proofs.put_record.Tie as tie

returns : tie.Need-returns
returns c =
    let p = c.before.before in
    let q = p.before.before.before.before in
    let r = q.before.before.before.before in
    let t = r.before.before.before.before in
    record_put _ _ t.place-at.ensures _ t.put.ensures r.put-2.ensures q.put-3.ensures p.put-4.ensures

pub put_record_spec : {M : Type 1} → statement M
put_record_spec =
    tie.close
    (tie.spec (λ c κs. search rules) (λ c κs. search rules) (λ c. search rules) (λ c κs. search rules) (λ c. search rules)
    (λ c κs. search rules) (λ c. search rules) (λ c κs. search rules) (λ c. search rules) returns)
