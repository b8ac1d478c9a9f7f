-- The plan is known: no round, and a page. Blocks, the chain, the put.
use Rattle.std.proofs.Common.{refl, sym, ◌∙◌}
use native.Mathlib.Omega.{arith}
use Rattle.std.specs.Prelude.{Ok}
use Rattle.store.proofs.HeadLaws.{head_whole}
use Rattle.insert.proofs.EnterCode.{one_page, no_room, no_chain, begun_narrow, tested_placing, null_tested, still, enters, refuses}
use Rattle.insert.proofs.enter_null.Goals as goal

pub room_for-requires : goal.room_for-requires
room_for-requires c = let p = c.requires.0 in record { rule = p.rule; head = p.own }

pub returns-then-not-room_for : goal.returns-then-not-room_for
returns-then-not-room_for c =
    let p = c.requires in
    refuses (no_room (null_tested p.0 p.1 p.2) (sym c.room_for.ensures ∙ c.if-not-room_for.true))

pub chains_ok-requires : goal.chains_ok-requires
chains_ok-requires c =
    let p = c.requires in
    (record { rule = p.0.rule; head = p.0.own }, one_page (null_tested p.0 p.1 p.2))

pub returns-then-not-chains_ok : goal.returns-then-not-chains_ok
returns-then-not-chains_ok c =
    let p = c.requires in
    refuses
    (no_chain (null_tested p.0 p.1 p.2) (sym c.room_for.ensures ∙ c.if-not-room_for.false)
    (sym c.chains_ok.ensures ∙ c.if-not-chains_ok.true))

pub take_own-h-requires : goal.take_own-h-requires
take_own-h-requires c =
    let p = c.requires in
    let t = null_tested p.0 p.1 p.2 in
    let room = sym c.room_for.ensures ∙ c.if-not-room_for.false in
    let chain = sym c.chains_ok.ensures ∙ c.if-not-chains_ok.false in
    (record { way = _; placing = tested_placing t room chain refl p.1 }, p.2, begun_narrow t.begun)

pub entry_done-requires : goal.entry_done-requires
entry_done-requires c =
    (omega (arith, c.take_own-h.auto.store, head_whole _ _ c.requires.0.rule), c.take_own-h.ensures.0)

pub returns : goal.returns
returns c =
    let a = c.args in
    let p = c.requires in
    let t = null_tested p.0 p.1 p.2 in
    let room = sym c.room_for.ensures ∙ c.if-not-room_for.false in
    let chain = sym c.chains_ok.ensures ∙ c.if-not-chains_ok.false in
    enters (still t room chain) (c.take_own-h.ensures.1 _ (tested_placing t room chain refl p.1)) (Ok c.entry_done.result)
    (c.entry_done.ensures a.item refl)
