-- Where θ is above 6, the words for 6.
use borrow.Author.Rules.{rules}
use mathlib.Core.Path.{ap, ◌∙◌}
use Prim.Native.Nat.{◌+◌, ◌*◌}
use Rattle.raw.proofs.Laws.{size_within, size_above}
use Rattle.raw.proofs.blocks.node_words.Statement.{statement}
use Rattle.raw.proofs.blocks.node_words.Tie as tie

returns : tie.Need-returns-then-theta-gt6
returns c = size_above _ c.if-theta-gt6.true

returns_2 : tie.Need-returns
returns_2 c = ap (λ x. 4 + 2 * x) c.pow2.ensures.0 ∙ size_within _ c.if-theta-gt6.false

pub node_words_spec : {M : Type 1} → statement M
node_words_spec =
    tie.close
    (tie.spec returns (λ c κs. search rules) (λ c. search rules) (λ c. search rules) (λ c. search rules) returns_2)
