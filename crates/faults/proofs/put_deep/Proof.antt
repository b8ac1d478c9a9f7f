-- The store is set up, then the path, the last node and the head are written.
use borrow.Author.Rules.{rules}
use Rattle.faults.proofs.Laws.{deep_put_lem}
use Rattle.faults.proofs.put_deep.Statement.{statement}
use Rattle.faults.proofs.put_deep.Tie as tie

returns : tie.Need-returns
returns c =
    let l = c.before.before in
    let n = l.before.before.before.before in
    let p = n.before.before.before.before in
    let r = p.before.before.before.before.before in
    deep_put_lem _ _ r.ask.ensures r.reply_to.ensures.1 p.put_path.ensures n.put_node.ensures
    l.put_levels.ensures

pub put_deep_spec : {M : Type 1} → statement M
put_deep_spec =
    tie.close
    (tie.spec (λ c. search rules) (λ c κs. search rules) (λ c κs. search rules) (λ c κs. search rules) (λ c κs. search rules)
    (λ c κs. search rules) (λ c. search rules) returns)
