-- By its tests, in order.
use Rattle.std.proofs.Common.{refl, sym, ap, ◌∙◌, true, false, eqb}
use mathlib.Core.Bool.{not}
use borrow.Author.Tests.{eq-eqb, ne_eqb, lt-leb, le-leb}
use Rattle.insert.proofs.PlanLaws.{word_of, no_neighbour, neighbour_is}
use Rattle.insert.proofs.neighbour_ok.Goals as goal

pub returns-then-q-eq0 : goal.returns-then-q-eq0
returns-then-q-eq0 c =
    let link = word_of c.args.store.now _ _ 3 c.word-q.ensures c.node_start.ensures.0 in
    no_neighbour _ _ _ link c.if-q-eq0.true

pub returns-then-head-q : goal.returns-then-head-q
returns-then-head-q c =
    let link = word_of c.args.store.now _ _ 3 c.word-q.ensures c.node_start.ensures.0 in
    neighbour_is _ _ _ link false _ _ _ c.if-q-eq0.false (sym (lt-leb _ _ c.if-head-q.true)) refl refl refl

pub returns-then-q-n : goal.returns-then-q-n
returns-then-q-n c =
    let link = word_of c.args.store.now _ _ 3 c.word-q.ensures c.node_start.ensures.0 in
    neighbour_is _ _ _ link true false _ _ c.if-q-eq0.false (sym (le-leb _ _ c.if-head-q.false)) (sym (ap not (eq-eqb _ _ c.if-q-n.true)))
    refl refl

pub returns-then-word-ne1 : goal.returns-then-word-ne1
returns-then-word-ne1 c =
    let s = c.args.store.now in
    let link = word_of s _ _ 3 c.word-q.ensures c.node_start.ensures.0 in
    let level = word_of s _ _ 1 c.word.ensures c.node_start-at.ensures.0 in
    neighbour_is _ _ _ link true true false _ c.if-q-eq0.false (sym (le-leb _ _ c.if-head-q.false)) (sym (ap not (ne_eqb _ _ c.if-q-n.false)))
    (sym (ne_eqb _ _ (λ e. c.if-word-ne1.true (level ∙ e)))) refl

pub returns : goal.returns
returns c =
    let s = c.args.store.now in
    let link = word_of s _ _ 3 c.word-q.ensures c.node_start.ensures.0 in
    let level = word_of s _ _ 1 c.word.ensures c.node_start-at.ensures.0 in
    let back = word_of s _ _ 2 c.word-2.ensures c.node_start-at.ensures.0 in
    neighbour_is _ _ _ link true true true _ c.if-q-eq0.false (sym (le-leb _ _ c.if-head-q.false)) (sym (ap not (ne_eqb _ _ c.if-q-n.false)))
    (sym (eq-eqb _ _ (sym level ∙ c.if-word-ne1.false))) (ap (λ x. eqb x c.args.n) back)
