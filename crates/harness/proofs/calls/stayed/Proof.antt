-- A word of the output that has changed is enough.
use borrow.Author.Rules.{rules}
use Rattle.harness.proofs.CallLaws.{stays_not, stays_store}
use Rattle.harness.proofs.calls.stayed.Statement.{statement}
use Rattle.harness.proofs.calls.stayed.Tie as tie

returns : tie.Need-returns-then-not-all_from
returns c = let p = c.before in stays_not _ _ _ _ _ _ p.written.ensures p.all_from.ensures c.if-not-all_from.true-raw

returns_2 : tie.Need-returns
returns_2 c =
    let l = c.before in
    let e = l.before.before in
    let p = e.before in
    stays_store _ _ _ _ _ _ p.written.ensures p.all_from.ensures e.if-not-all_from.false-raw l.open_words-from.ensures
    l.saturating_sub.ensures c.same.ensures

pub stayed_spec : {M : Type 1} → statement M
stayed_spec =
    tie.close
    (tie.spec (λ c κs. search rules) (λ c κs. search rules) returns (λ c κs. search rules) (λ c κs. search rules)
    (λ c κs. search rules) returns_2)
