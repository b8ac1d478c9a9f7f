-- Where the block ends within the store it is that part, else no word.
use borrow.Author.Rules.{rules}
use Rattle.store.proofs.HeadLaws.{page_given, page_none}
use Rattle.store.proofs.page_at.Statement.{statement}
use Rattle.store.proofs.page_at.Tie as tie

returns : tie.Need-returns-then-end-store
returns c =
    let p = c.before.before in
    page_given _ _ _ _ _ _ p.page_start-start.ensures.0 p.page_words.ensures.0 c.if-end-store.true

returns_2 : tie.Need-returns
returns_2 c =
    let p = c.before.before in
    page_none _ _ _ _ _ _ p.page_start-start.ensures.0 p.page_words.ensures.0 c.if-end-store.false

pub page_at_spec : {M : Type 1} → statement M
page_at_spec =
    tie.close
    (tie.spec (λ c κs. search rules) (λ c κs. search rules) (λ c. search rules) (λ c. search rules) (λ c. search rules) (λ c. search rules)
    (λ c. search rules) returns (λ c. search rules) (λ c. search rules) (λ c. search rules) returns_2)
