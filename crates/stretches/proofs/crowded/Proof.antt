-- The record after a page's most is past the list, or its key is tested.
use borrow.Author.Rules.{rules}
use Rattle.stretches.proofs.Laws.{crowded_past, crowded_test}
use Rattle.stretches.proofs.crowded.Statement.{statement}
use Rattle.stretches.proofs.crowded.Tie as tie

returns : tie.Need-returns-then-i-word
returns c =
    let w = c.before in
    crowded_past _ _ _ _ _ w.saturating_add-i.ensures w.word.ensures c.if-i-word.true

returns_2 : tie.Need-returns
returns_2 c =
    let k = c.before.before in
    let t = k.before in
    let w = t.before in
    crowded_test _ _ _ _ _ w.saturating_add-i.ensures w.word.ensures t.if-i-word.false k.element.ensures
    c.widen.ensures.0 c.end_of.ensures

pub crowded_spec : {M : Type 1} → statement M
crowded_spec =
    tie.close
    (tie.spec (λ c κs. search rules) (λ c κs. search rules) returns (λ c κs. search rules) (λ c κs. search rules) (λ c κs. search rules)
    returns_2)
