-- The ways out: a longer prefix, null, damage, and the count of the sibling's records. The visit meets no damage: its node is on the key's way.
use mathlib.Core.Path.{refl, sym, ap, ◌∙◌}
use mathlib.Core.Bool.{false≢true}
use native.Mathlib.Omega.{arith}
use Rattle.store.proofs.HeadLaws.{width_within}
use Rattle.search.proofs.BlockLaws.{under_page}
use Rattle.search.proofs.WayLaws.{answered_err, visit_ok}
use Rattle.near.specs.Near.{near_result}
use Rattle.near.proofs.NearLaws.{end_node, end_bits, end_visited, end_run}
use Rattle.near.proofs.Told.{apart_far, apart_null, apart_lost, apart_told}
use Rattle.near.proofs.stays_apart.Goals as goal

pub sibling_key-other-requires : goal.sibling_key-other-requires
sibling_key-other-requires c = let p = c.requires in (omega (arith, p.3), (end_bits _ p.0 p.2 refl).0, p.1)

pub visit_node-requires : goal.visit_node-requires
visit_node-requires c =
    let p = c.requires in (p.0, end_node _ p.0 p.2 refl, (end_bits _ p.0 p.2 refl).1, λ z. end_visited _ p.0 p.2 refl _)

pub returns-in_err-v : goal.returns-in_err-v
returns-in_err-v c =
    let p = c.requires in
    absurd (false≢true
    (sym (answered_err _ _ c.in_err-v.ensures).0 ∙ end_visited _ p.0 p.2 refl c.sibling_key-other.result))

pub overflow_add-e : goal.overflow_add-e
overflow_add-e c =
    let p = c.requires in
    omega (
      arith,
      width_within c.args.f,
      end_run _ p.0 p.2 refl _ (visit_ok _ c.in_ok-v.ensures),
    )

pub returns-then-e-v : goal.returns-then-e-v
returns-then-e-v c =
    ap near_result
    (apart_far _ _ _ _ _ _ c.sibling_key-other.ensures.0 (visit_ok _ c.in_ok-v.ensures)
    (omega (arith, c.if-e-v.true)))

pub returns-then-p-eq0 : goal.returns-then-p-eq0
returns-then-p-eq0 c =
    ap near_result
    (apart_null _ _ _ _ _ _ c.sibling_key-other.ensures.0 (visit_ok _ c.in_ok-v.ensures)
    (omega (arith, c.if-e-v.false)) c.if-p-eq0.true c.requires.4)

pub own_ok-requires : goal.own_ok-requires
own_ok-requires c = let p = c.requires in ((under_page p.0).0, (under_page p.0).1, (end_bits _ p.0 p.2 refl).0)

pub returns-then-not-own_ok : goal.returns-then-not-own_ok
returns-then-not-own_ok c =
    ap near_result
    (apart_lost _ _ _ _ _ _ c.sibling_key-other.ensures.0 (visit_ok _ c.in_ok-v.ensures)
    (omega (arith, c.if-e-v.false)) c.own_ok.ensures c.if-not-own_ok.true)

pub page_at-requires : goal.page_at-requires
page_at-requires c = under_page c.requires.0

pub returns : goal.returns
returns c =
    ap near_result
    (apart_told _ _ _ _ _ _ c.sibling_key-other.ensures.0 (visit_ok _ c.in_ok-v.ensures)
    (omega (arith, c.if-e-v.false)) c.own_ok.ensures c.if-not-own_ok.false c.if-p-eq0.false c.page_at.ensures c.count_of-held.ensures.0
    c.to_index.ensures.0)
