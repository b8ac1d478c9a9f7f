-- The gap closed, and the count; an empty list stays.
use borrow.Author.Rules.{rules}
use Rattle.model.proofs.Laws.{remove_done, remove_none}
use Rattle.model.proofs.remove.Statement.{statement}
use Rattle.model.proofs.remove.Tie as tie

returns : tie.Need-returns-then-n-gt0
returns c =
    let p = c.before.before in
    let r = p.before.before.before.before in
    let k = r.before.before.before in
    remove_done _ _ k.size-n.ensures k.rank-at.ensures r.if-n-gt0.true r.close_up.ensures
    p.put.ensures

returns_2 : tie.Need-returns-else-n-gt0
returns_2 c = remove_none _ _ c.size-n.ensures c.if-n-gt0.false

pub remove_spec : {M : Type 1} → statement M
remove_spec =
    tie.close
    (tie.spec (λ c κs. search rules) (λ c κs. search rules) (λ c κs. search rules) (λ c. search rules) (λ c κs. search rules)
    (λ c. search rules) returns (λ c. search rules) returns_2)
