-- Three words of the head, one after the other.
use borrow.Author.Rules.{rules}
use Rattle.faults.proofs.Laws.{levels_put_lem}
use Rattle.faults.proofs.put_levels.Statement.{statement}
use Rattle.faults.proofs.put_levels.Tie as tie

returns : tie.Need-returns
returns c =
    let r = c.before.before in
    let q = r.before.before.before.before in
    let p = q.before.before.before.before in
    levels_put_lem _ p.put.ensures q.put-2.ensures r.put-3.ensures

pub put_levels_spec : {M : Type 1} → statement M
put_levels_spec =
    tie.close (tie.spec (λ c κs. search rules) (λ c κs. search rules) (λ c κs. search rules) (λ c. search rules) returns)
