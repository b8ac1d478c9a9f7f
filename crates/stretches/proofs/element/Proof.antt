-- No word, a word of an element of four, and a word of an element of two.
use borrow.Author.Rules.{rules}
use Rattle.stretches.proofs.Laws.{element_none, element_four, element_two}
use Rattle.stretches.proofs.element.Statement.{statement}
use Rattle.stretches.proofs.element.Tie as tie

returns : tie.Need-returns-then-j-gt1
returns c = element_none _ _ _ _ c.if-j-gt1.true

returns_2 : tie.Need-returns-then-words-eq-LEVEL_0
returns_2 c =
    let t = c.before.before in
    element_four _ _ _ _ t.if-j-gt1.false c.to_index.ensures.0 t.if-words-eq-LEVEL_0.true c.word.ensures

returns_3 : tie.Need-returns
returns_3 c =
    let t = c.before.before in
    element_two _ _ _ _ t.if-j-gt1.false c.to_index-2.ensures.0 t.if-words-eq-LEVEL_0.false c.word-2.ensures

pub element_spec : {M : Type 1} → statement M
element_spec =
    tie.close
    (tie.spec returns (λ c κs. search rules) (λ c. search rules) (λ c. search rules) (λ c. search rules) (λ c κs. search rules) returns_2
    (λ c κs. search rules) (λ c. search rules) (λ c. search rules) (λ c. search rules) (λ c κs. search rules) returns_3)
