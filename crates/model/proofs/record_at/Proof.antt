-- The record, word by word.
use borrow.Author.Rules.{rules}
use Rattle.model.proofs.Laws.{record_read}
use Rattle.model.proofs.record_at.Statement.{statement}
use Rattle.model.proofs.record_at.Tie as tie

returns : tie.Need-returns
returns c =
    let p = c.before.before.before in
    record_read _ _ p.place-at.ensures
    p.word.ensures c.word-2.ensures c.word-3.ensures c.word-4.ensures

pub record_at_spec : {M : Type 1} → statement M
record_at_spec =
    tie.close
    (tie.spec (λ c κs. search rules) (λ c κs. search rules) (λ c. search rules) (λ c κs. search rules) (λ c. search rules)
    (λ c κs. search rules) (λ c. search rules) (λ c κs. search rules) returns)
