-- By its definition.
use borrow.Author.Rules.{rules}
use Rattle.raw.specs.Blocks.{page_size}
use Rattle.raw.proofs.blocks.page_words.Statement.{statement}
use Rattle.raw.proofs.blocks.page_words.Tie as tie

returns : tie.Need-returns
unfolding page_size
returns c = search rules

pub page_words_spec : {M : Type 1} → statement M
page_words_spec =
    tie.close
    (tie.spec (λ c κs. search rules) (λ c. search rules) (λ c. search rules) (λ c. search rules) (λ c. search rules) returns)
