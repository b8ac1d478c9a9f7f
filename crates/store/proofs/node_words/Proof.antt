-- By its definition.
use borrow.Author.Rules.{rules}
use Rattle.store.specs.Head.{node_words}
use Rattle.store.proofs.node_words.Statement.{statement}
use Rattle.store.proofs.node_words.Tie as tie

returns : tie.Need-returns
unfolding node_words
returns c = search rules

pub node_words_spec : {M : Type 1} → statement M
node_words_spec = tie.close (tie.spec (λ c κs. search rules) (λ c. search rules) (λ c. search rules) returns)
