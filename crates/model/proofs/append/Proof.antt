-- The record at the end, and the count.
use borrow.Author.Rules.{rules}
use Rattle.model.specs.Model.{appended}
use Rattle.model.proofs.append.Statement.{statement}
use Rattle.model.proofs.append.Tie as tie

returns : tie.Need-returns
unfolding appended
returns c =
    let p = c.before.before in
    let q = p.before.before.before.before.before in
    rw (p.put.ensures, p.saturating_add.ensures, q.put_record.ensures, q.size-n.ensures)

pub append_spec : {M : Type 1} → statement M
append_spec =
    tie.close
    (tie.spec (λ c κs. search rules) (λ c κs. search rules) (λ c κs. search rules) (λ c κs. search rules) (λ c. search rules) returns)
