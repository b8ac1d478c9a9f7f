-- Three tests.
use borrow.Author.Rules.{rules}
use mathlib.Core.Path.{refl, sym, ◌∙◌}
use mathlib.Core.Bool.{true, false}
use Rattle.lists.proofs.Tests.{passed, failed}
use Rattle.store.proofs.Places.{under_limits}
use Rattle.store.proofs.ChainLaws.{link_is}
use Rattle.store.proofs.link_ok.Statement.{statement}
use Rattle.store.proofs.link_ok.Tie as tie

returns : tie.Need-returns-then-not-node_form
returns c = link_is _ _ _ _ _ _ _ false _ _ (sym (failed c.node_form.ensures c.if-not-node_form.true-raw)) refl refl refl

node_seen_requires : tie.Need-node_seen-requires
node_seen_requires c κs = let p = c.requires in ((under_limits p.0).theta, p.0.head)

returns_2 : tie.Need-returns-then-node_seen
returns_2 c =
    let q = c.before.before in
    link_is _ _ _ _ _ _ _ true true _ (sym (passed q.node_form.ensures q.if-not-node_form.false-raw))
    (sym c.if-node_seen.true ∙ c.node_seen.ensures) refl refl

node_next_requires : tie.Need-node_next-requires
node_next_requires c κs = let p = c.requires in ((under_limits p.0).theta, p.0.head)

returns_3 : tie.Need-returns
returns_3 c =
    let e = c.before.before in
    let q = e.before.before in
    link_is _ _ _ _ _ _ _ true false _ (sym (passed q.node_form.ensures q.if-not-node_form.false-raw))
    (sym e.if-node_seen.false ∙ e.node_seen.ensures) c.node_next.ensures c.name_ok.ensures

pub link_ok_spec : {M : Type 1} → statement M
link_ok_spec =
    tie.close
    (tie.spec (λ c κs. search rules) returns node_seen_requires returns_2 node_next_requires (λ c κs. search rules) returns_3)
