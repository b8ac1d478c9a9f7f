use borrow.Author.Rules.{rules}
use Rattle.store.proofs.ChainLaws.{page_next_is}
use Rattle.store.proofs.page_next.Statement.{statement}
use Rattle.store.proofs.page_next.Tie as tie

returns : tie.Need-returns
returns c =
    let q = c.before.before.before in
    page_next_is _ _ _ _ _ _ q.requires.2 c.page_start.ensures.0 c.word.ensures

pub page_next_spec : {M : Type 1} → statement M
page_next_spec = tie.close (tie.spec (λ c κs. search rules) (λ c. search rules) (λ c κs. search rules) returns)
