-- The first node has a twin already, or it gets one and is queued.
use borrow.Author.Rules.{rules}
use Rattle.raw.proofs.TwinLaws.{pair_kept, pair_made}
use Rattle.raw.proofs.twins.pair.Statement.{statement}
use Rattle.raw.proofs.twins.pair.Tie as tie

returns : tie.Need-returns-then-word-ne0
returns c = let p = c.before in pair_kept _ _ _ _ p.to_index.ensures.0 p.word.ensures c.if-word-ne0.true

returns_2 : tie.Need-returns
returns_2 c =
    pair_made _ _ _ _ c.to_index.ensures.0 c.word.ensures c.if-word-ne0.false c.word-2.ensures c.saturating_add-n.ensures
    c.to_index-2.ensures.0 c.put.ensures c.to_index-3.ensures.0 c.put-2.ensures c.put-3.ensures

pub pair_spec : {M : Type 1} → statement M
pair_spec =
    tie.close
    (tie.spec (λ c κs. search rules) (λ c κs. search rules) (λ c. search rules) returns (λ c κs. search rules) (λ c κs. search rules)
    (λ c κs. search rules) (λ c κs. search rules) (λ c κs. search rules) (λ c κs. search rules) (λ c κs. search rules) (λ c. search rules)
    (λ c. search rules) returns_2)
