use borrow.Author.Rules.{rules}
use mathlib.Core.Path.{refl, sym}
use mathlib.Core.Bool.{true, false}
use Rattle.lists.proofs.Tests.{passed, failed}
use Rattle.store.proofs.HeadLaws.{head_whole}
use Rattle.store.proofs.Places.{under_limits, under_chains}
use Rattle.store.proofs.ChainLaws.{pages_none, pages_empty, pages_one}
use Rattle.store.proofs.pages_ok.Statement.{statement}
use Rattle.store.proofs.pages_ok.Tie as tie

abbrev call : tie.Else-r-eq0 → tie.Start
call c = c.before.before.before.before.before

pub pages_ok_spec : {M : Type 1} → statement M
pages_ok_spec = tie.close (tie.spec returns released_of_requires returns_2 page_form_requires returns_3 page_next_requires (λ c. search rules)
    (λ c κs. search rules) returns_4)
  where
    returns : tie.Need-returns-then-n-eq0
    returns c = pages_none _ _ _ (search rules)

    released_of_requires : tie.Need-released_of-r-requires
    released_of_requires c κs = head_whole _ _ c.requires.0.rule

    returns_2 : tie.Need-returns-then-r-eq0
    returns_2 c = pages_empty _ _ _ _ c.released_of-r.ensures (search rules)

    page_form_requires : tie.Need-page_form-requires
    page_form_requires c κs =
        let b = call c in
        let n = (under_chains b.requires.0 c.released_of-r.ensures).page in
        (b.requires.0, n.some (search rules), n.within)

    returns_3 : tie.Need-returns-then-not-page_form
    returns_3 c =
        let e = c.before.before in
        pages_one _ _ _ _ _ _ false _ (call e).requires.0.head e.released_of-r.ensures (search rules) (search rules) refl
        (sym (failed c.page_form.ensures c.if-not-page_form.true-raw)) refl

    page_next_requires : tie.Need-page_next-requires
    page_next_requires c κs = let b = call c.before.before in let l = under_limits b.requires.0 in (l.theta, l.capacity, b.requires.0.head)

    returns_4 : tie.Need-returns
    returns_4 c =
        let e = c.before.before.before in
        let q = e.before.before in
        pages_one _ _ _ _ _ _ true _ (call q).requires.0.head q.released_of-r.ensures (search rules) (search rules)
        c.page_next.ensures (sym (passed e.page_form.ensures e.if-not-page_form.false-raw)) c.name_ok.ensures
