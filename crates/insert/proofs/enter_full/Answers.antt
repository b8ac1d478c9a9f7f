-- The way down with its steps, the plan, room made by rounds, the put.
use Rattle.std.proofs.Common.{◌≡◌, refl, sym, ap, ◌∙◌}
use mathlib.Core.Bool.{true, ◌&&◌, true≢false}
use native.Mathlib.Omega.{arith}
use Rattle.std.specs.Prelude.{Ok}
use lib.Dec.{leb}
use mathlib.Core.List.{List}
use Prim.Native.Nat.{ℕ}
use Rattle.store.specs.declared.Format.{Format}
use Rattle.store.specs.declared.Head.{Head}
use Rattle.store.specs.declared.Item.{Item}
use Rattle.store.specs.Head.{head_of, nodes_left, pages_left}
use Rattle.store.specs.Released.{nodes_ok, pages_ok}
use Rattle.store.proofs.HeadLaws.{head_whole}
use Rattle.search.specs.Way.{Descent}
use Rattle.insert.specs.declared.Plan.{Plan}
use Rattle.insert.specs.Enter.{way_of, rounds_of}
use Rattle.search.proofs.WayLaws.{answered_err, descent_is}
use Rattle.insert.proofs.EnterCode.{begun_narrow, begun_long, begun_carries, accepted_way, accepted_limits, accepted_own, accepted_tested}
use Rattle.insert.proofs.EnterCode.{Tested, one_page, no_room, no_chain, tested_fine, Roomy, room_placing, enters, refuses}
use Rattle.insert.proofs.enter_full.Goals as goal

pub descend-requires : goal.descend-requires
descend-requires c = let p = c.requires in (record { rule = p.rule; head = p.own }, λ z. accepted_way p)

pub returns-in_err-down : goal.returns-in_err-down
returns-in_err-down c =
    let h = answered_err _ _ (sym c.in_err-down.was ∙ c.descend.ensures.0) in
    absurd (true≢false (sym (accepted_way c.requires) ∙ h.0))

pub plan_for-plan-requires : goal.plan_for-plan-requires
plan_for-plan-requires c =
    let a = c.requires in
    let d = descent_is _ (sym c.in_ok-down.was ∙ c.descend.ensures.0) in
    let t = accepted_tested a d refl in
    let l = accepted_limits a in
    (l.0, l.1, l.2, l.3, l.4, rw (ap (λ x. x.used) d) c.descend.ensures.1, begun_long t.begun, accepted_own a d)

pub room_for-requires : goal.room_for-requires
room_for-requires c = let p = c.requires in record { rule = p.rule; head = p.own }

pub returns-then-not-room_for : goal.returns-then-not-room_for
returns-then-not-room_for c =
    let d = descent_is _ (sym c.in_ok-down.was ∙ c.descend.ensures.0) in
    refuses
    (no_room (accepted_tested c.requires d c.plan_for-plan.ensures) (sym c.room_for.ensures ∙ c.if-not-room_for.true))

pub chains_ok-requires : goal.chains_ok-requires
chains_ok-requires c =
    let p = c.requires in
    let d = descent_is _ (sym c.in_ok-down.was ∙ c.descend.ensures.0) in
    (record { rule = p.rule; head = p.own }, one_page (accepted_tested p d c.plan_for-plan.ensures))

pub returns-then-not-chains_ok : goal.returns-then-not-chains_ok
returns-then-not-chains_ok c =
    let d = descent_is _ (sym c.in_ok-down.was ∙ c.descend.ensures.0) in
    refuses
    (no_chain (accepted_tested c.requires d c.plan_for-plan.ensures) (sym c.room_for.ensures ∙ c.if-not-room_for.false)
    (sym c.chains_ok.ensures ∙ c.if-not-chains_ok.true))

pub make_room-course-requires : goal.make_room-course-requires
make_room-course-requires c =
    let d = descent_is _ (sym c.in_ok-down.was ∙ c.descend.ensures.0) in
    let t = accepted_tested c.requires d c.plan_for-plan.ensures in (
      begun_carries t.begun,
      begun_narrow t.begun,
      tested_fine t (sym c.room_for.ensures ∙ c.if-not-room_for.false) (sym c.chains_ok.ensures ∙ c.if-not-chains_ok.false),
    )

pub ending-requires : goal.ending-requires
ending-requires c = c.make_room-course.ensures.0.long

-- room is made
room_made : {f : Format} {s : List ℕ} {it : Item} {h : Head} {d : Descent} {p : Plan} {v : List ℕ} {g : Head} {e : Descent} → Tested f s it h d p
    → (leb p.nodes (nodes_left s) && leb p.pages (pages_left s)) ≡ true → (nodes_ok s p.nodes && pages_ok f s p.pages) ≡ true → g ≡ head_of v
    → way_of f v g it.key e ≡ rounds_of f h.theta h.capacity it.key p.rounds (way_of f s h it.key d) → Roomy f s it h d p v g e
room_made t r c o w = record { tested = t; room = r; chain = c; own = o; way = w }

pub place-h-requires : goal.place-h-requires
place-h-requires c =
    let d = descent_is _ (sym c.in_ok-down.was ∙ c.descend.ensures.0) in
    let m = c.make_room-course.ensures in
    let t = accepted_tested c.requires d c.plan_for-plan.ensures in
    let r =
    room_made t (sym c.room_for.ensures ∙ c.if-not-room_for.false) (sym c.chains_ok.ensures ∙ c.if-not-chains_ok.false)
    m.0.head_is m.1 in
    (record { way = _; placing = room_placing r m.0 c.ending.ensures }, begun_narrow t.begun)

pub entry_done-requires : goal.entry_done-requires
entry_done-requires c =
    (omega (arith, c.place-h.auto.store, c.make_room-course.auto.store, head_whole _ _ c.requires.rule), c.place-h.ensures.0)

pub returns : goal.returns
returns c =
    let d = descent_is _ (sym c.in_ok-down.was ∙ c.descend.ensures.0) in
    let m = c.make_room-course.ensures in
    let t = accepted_tested c.requires d c.plan_for-plan.ensures in
    let r =
    room_made t (sym c.room_for.ensures ∙ c.if-not-room_for.false) (sym c.chains_ok.ensures ∙ c.if-not-chains_ok.false)
    m.0.head_is m.1 in
    enters r (c.place-h.ensures.1 _ (room_placing r m.0 c.ending.ensures)) (Ok c.entry_done.result) (c.entry_done.ensures c.args.item refl)
