-- One law for each way out.
use native.Mathlib.Omega.{arith}
use Rattle.page.proofs.Inside.{page_lent, filled}
use Rattle.page.proofs.Laws.{rule_facts}
use Rattle.insert.proofs.EnterCode.{own_test_lem, own_rule, own_agrees, rounds_small, plan_null, plan_room, plan_full}
use Rattle.insert.proofs.plan_for.Goals as goal

pub returns-then-d-eq0 : goal.returns-then-d-eq0
returns-then-d-eq0 c = plan_null _ _ _ _ _ c.if-d-eq0.true c.requires.2

pub returns-then-count_of-to_index : goal.returns-then-count_of-to_index
returns-then-count_of-to_index c =
    plan_room _ _ _ _ _ c.if-d-eq0.false c.page_at-page.ensures c.requires.7 c.count_of.ensures.0 c.to_index.ensures.0
    c.if-count_of-to_index.true

pub rounds_for-rounds-requires : goal.rounds_for-rounds-requires
rounds_for-rounds-requires c =
    let p = c.requires in
    let e = c.page_at-page.ensures in
    let o = own_test_lem _ _ _ _ _ p.7 in
    let r = own_rule _ _ _ _ _ _ c.if-d-eq0.false e o in
    (p.5, own_agrees _ _ _ _ _ _ c.if-d-eq0.false e o, (rule_facts _ _ _ r).some, filled _ _ _ r (rw e (page_lent _ _ _ _)))

pub nodes_for-requires : goal.nodes_for-requires
nodes_for-requires c =
    let p = c.requires in
    (p.0, omega (arith, p.4, p.6), p.4, rounds_small _ _ _ _ c.rounds_for-rounds.ensures)

pub returns : goal.returns
returns c =
    plan_full _ _ _ _ _ c.if-d-eq0.false c.page_at-page.ensures c.requires.7 c.count_of.ensures.0 c.to_index.ensures.0
    c.if-count_of-to_index.false c.rounds_for-rounds.ensures c.nodes_for.ensures
