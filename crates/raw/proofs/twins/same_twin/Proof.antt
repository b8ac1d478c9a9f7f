-- Both are null, or the pair is looked up.
use borrow.Author.Rules.{rules}
use mathlib.Core.Path.{ap, ◌∙◌}
use mathlib.Core.Logic.{inl, inr}
use lib.Dec.{eqb}
use Rattle.store.specs.Head.{word}
use borrow.Author.Tests.{eq-eqb, ne_eqb}
use Rattle.raw.proofs.TwinLaws.{twin_null, twin_some}
use Rattle.raw.proofs.twins.same_twin.Statement.{statement}
use Rattle.raw.proofs.twins.same_twin.Tie as tie

returns : tie.Need-returns-then-p-eq0
returns c =
    twin_null _ _ _ (elim c.then-p-eq0.either [ inl w ↦ inl (eq-eqb _ _ w) | inr w ↦ inr (eq-eqb _ _ w.1) ])

returns_2 : tie.Need-returns
returns_2 c =
    let a = c.args in
    ap (λ x. eqb x a.q) (c.word.ensures ∙ ap (word a.twins.now) c.to_index.ensures.0)
    ∙ twin_some _ _ _ (ne_eqb _ _ c.if-p-eq0.false) (ne_eqb _ _ c.if-q-eq0.false)

pub same_twin_spec : {M : Type 1} → statement M
same_twin_spec = tie.close (tie.spec returns (λ c κs. search rules) (λ c κs. search rules) returns_2)
