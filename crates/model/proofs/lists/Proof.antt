-- The words of the records, compared in place.
use borrow.Author.Rules.{rules}
use Rattle.model.proofs.Laws.{listed_is}
use Rattle.model.proofs.lists.Statement.{statement}
use Rattle.model.proofs.lists.Tie as tie

returns : tie.Need-returns
returns c =
    let p = c.before in
    listed_is _ _ _ _ c.same.ensures p.rank.ensures p.place-from.ensures p.to_index.ensures.0

pub lists_spec : {M : Type 1} → statement M
lists_spec =
    tie.close
    (tie.spec (λ c κs. search rules) (λ c κs. search rules) (λ c κs. search rules) (λ c. search rules) (λ c κs. search rules)
    returns)
