-- A plan that passed its tests is ready, and is carried out.
use native.Mathlib.Omega.{arith}
use Rattle.search.proofs.BlockLaws.{under_levels}
use Rattle.removal.proofs.PlanLaws.{located_doable, located_ready, slice_room, executed_done}
use Rattle.removal.proofs.follow_plan.Goals as goal

pub draw_plan-requires : goal.draw_plan-requires
draw_plan-requires c =
    let p = c.requires in
    let l = (under_levels p.0.under).1 in
    (p.0, p.1, omega (arith, l), p.2, omega arith, omega arith, p.3, p.4)

pub carry_out-requires : goal.carry_out-requires
carry_out-requires c =
    let a = c.args in
    let m = c.draw_plan.new in
    let p = c.requires in
    let l = (under_levels p.0.under).1 in
    let k = c.draw_plan.auto in
    located_ready p.0 (c.in_ok-outline.ensures)
    (omega (arith, l, k.numbers)) (omega (arith, k.blocks, p.2)) (omega (arith, k.pages)) (omega (arith, k.gone, p.3))
    (omega (arith, slice_room a.f a.head.levels 32 l))

pub returns : goal.returns
returns c =
    let a = c.args in
    let m = c.draw_plan.new in
    let drawn = c.in_ok-outline.ensures in
    executed_done drawn.ok (c.carry_out.ensures _ (located_doable c.requires.0 drawn.ok) drawn.carried)
