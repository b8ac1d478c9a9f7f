-- Pages at level 1, else twins.
use borrow.Author.Rules.{rules}
use mathlib.Core.Path.{◌∙◌}
use mathlib.Core.Logic.{inl, inr}
use borrow.Author.Tests.{eq-eqb, ne_eqb}
use Rattle.raw.proofs.TwinLaws.{pointer_page, pointer_twin}
use Rattle.raw.proofs.twins.same_pointer.Statement.{statement}
use Rattle.raw.proofs.twins.same_pointer.Tie as tie

returns : tie.Need-returns-then-q-ne0
returns c =
    let t = c.before in
    let l = eq-eqb _ _ t.if-level-eq1.true in
    c.same_page.ensures ∙ pointer_page _ _ _ _ _ _ l t.if-p-ne0.true-raw t.if-q-ne0.true-raw

returns_2 : tie.Need-returns
returns_2 c =
    c.same_twin.ensures
    ∙ pointer_twin _ _ _ _ _ _
    (elim c.else-level-eq1.branch-raw [
      | inl w ↦ inr (inr w.if-q-ne0.false-raw)
      | inr (inl w) ↦ inr (inl w.if-p-ne0.false-raw)
      | inr (inr w) ↦ inl (ne_eqb _ _ w.if-level-eq1.false)
    ])

pub same_pointer_spec : {M : Type 1} → statement M
same_pointer_spec = tie.close (tie.spec (λ c κs. search rules) returns (λ c κs. search rules) returns_2)
