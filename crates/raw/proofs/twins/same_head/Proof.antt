-- The words before the root, then the one after it.
use borrow.Author.Rules.{rules}
use Rattle.raw.proofs.TwinLaws.{head_fails, head_rest}
use Rattle.raw.proofs.twins.same_head.Statement.{statement}
use Rattle.raw.proofs.twins.same_head.Tie as tie

returns : tie.Need-returns-then-not-same
returns c = head_fails _ _ c.same.ensures c.if-not-same.true-raw

returns_2 : tie.Need-returns
returns_2 c =
    let w = c.before in
    let e = w.before in
    head_rest _ _ e.same.ensures e.if-not-same.false-raw w.word.ensures c.word-2.ensures

pub same_head_spec : {M : Type 1} → statement M
same_head_spec =
    tie.close
    (tie.spec (λ c κs. search rules) returns (λ c κs. search rules) (λ c κs. search rules) returns_2)
