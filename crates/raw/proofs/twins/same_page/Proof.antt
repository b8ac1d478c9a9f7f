-- Words alike, from where the pages stand.
use borrow.Author.Rules.{rules}
use mathlib.Core.Path.{◌∙◌}
use Rattle.raw.proofs.TwinLaws.{page_same}
use Rattle.raw.proofs.twins.same_page.Statement.{statement}
use Rattle.raw.proofs.twins.same_page.Tie as tie

returns : tie.Need-returns
returns c =
    let t = c.before in
    let w = t.before in
    let q = w.before in
    let n = t.to_index.ensures.0 ∙ w.page_words.ensures.0 in
    c.same.ensures ∙ page_same _ _ _ _ q.page_at-px.ensures.0 q.page_at-py.ensures.0 n

pub same_page_spec : {M : Type 1} → statement M
same_page_spec =
    tie.close
    (tie.spec (λ c κs. search rules) (λ c κs. search rules) (λ c κs. search rules) (λ c κs. search rules)
    (λ c κs. search rules) returns)
