-- Room made, the record put, and the count; a full list stays.
use borrow.Author.Rules.{rules}
use Rattle.model.proofs.Laws.{insert_done, insert_full}
use Rattle.model.proofs.insert.Statement.{statement}
use Rattle.model.proofs.insert.Tie as tie

returns : tie.Need-returns-then-n-lt4294967295
returns c =
    let p = c.before.before in
    let q = p.before.before.before.before in
    let r = q.before.before.before.before in
    let k = r.before.before.before in
    insert_done _ _ k.size-n.ensures k.rank-at.ensures r.if-n-lt4294967295.true r.make_room.ensures
    q.put_record.ensures p.put.ensures

returns_2 : tie.Need-returns-else-n-lt4294967295
returns_2 c = insert_full _ _ c.size-n.ensures c.if-n-lt4294967295.false

pub insert_spec : {M : Type 1} → statement M
insert_spec =
    tie.close
    (tie.spec (λ c κs. search rules) (λ c κs. search rules) (λ c κs. search rules) (λ c κs. search rules) (λ c. search rules)
    (λ c κs. search rules) (λ c. search rules) returns (λ c. search rules) returns_2)
