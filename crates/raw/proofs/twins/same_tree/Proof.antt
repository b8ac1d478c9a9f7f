-- The nodes are paired; then test after test.
use borrow.Author.Rules.{rules}
use Rattle.raw.proofs.TwinLaws.{tree_twice, tree_head, tree_nodes}
use Rattle.raw.proofs.twins.same_tree.Statement.{statement}
use Rattle.raw.proofs.twins.same_tree.Tie as tie

returns : tie.Need-returns-then-not-apart
returns c =
    let q = c.before in
    let w = q.before in
    let p = w.before.before.before.before in
    tree_twice _ _ p.pair_all.ensures.0 w.word.ensures q.apart.ensures c.if-not-apart.true-raw

returns_2 : tie.Need-returns-then-not-same_head
returns_2 c =
    let h = c.before in
    let e = h.before in
    let q = e.before in
    let w = q.before in
    let p = w.before.before.before.before in
    tree_head _ _ p.pair_all.ensures.0 w.word.ensures q.apart.ensures e.if-not-apart.false-raw h.same_head.ensures c.if-not-same_head.true-raw

returns_3 : tie.Need-returns
returns_3 c =
    let f = c.before.before in
    let h = f.before in
    let e = h.before in
    let q = e.before in
    let w = q.before in
    let p = w.before.before.before.before in
    tree_nodes _ _ p.pair_all.ensures.0 w.word.ensures q.apart.ensures e.if-not-apart.false-raw h.same_head.ensures f.if-not-same_head.false-raw
    c.same_nodes.ensures

pub same_tree_spec : {M : Type 1} → statement M
same_tree_spec =
    tie.close
    (tie.spec (λ c. search rules) (λ c. search rules) (λ c κs. search rules) (λ c. search rules) (λ c κs. search rules)
    (λ c κs. search rules) returns (λ c κs. search rules) returns_2 (λ c. search rules) (λ c κs. search rules) returns_3)
