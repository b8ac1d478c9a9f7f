-- There is room for four levels, for eight, and for all.
use native.Mathlib.Omega.{arith}
use Rattle.search.proofs.BlockLaws.{under_levels}
use Rattle.removal.proofs.PlanLaws.{slice_room}
use Rattle.removal.proofs.remove_far.Goals as goal

pub plan_with-requires : goal.plan_with-requires
plan_with-requires c =
    let a = c.args in
    let l = c.if-head-le4.true in
    (c.requires, omega (arith, l), omega (arith, slice_room a.f a.head.levels 4 l), omega arith, omega arith)

pub plan_with-requires-then-head-le8 : goal.plan_with-requires-then-head-le8
plan_with-requires-then-head-le8 c =
    let a = c.args in
    let l = c.if-head-le8.true in
    (c.requires, omega (arith, l), omega (arith, slice_room a.f a.head.levels 8 l), omega arith, omega arith)

pub plan_with-requires-2 : goal.plan_with-requires-2
plan_with-requires-2 c =
    let a = c.args in
    let l = (under_levels c.requires.under).1 in
    (c.requires, omega (arith, l), omega (arith, slice_room a.f a.head.levels 32 l), omega arith, omega arith)
