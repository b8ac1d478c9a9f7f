-- The tests in order, one law for each refusal; then the record is put, after rounds where its page is full.
use mathlib.Core.Path.{◌≡◌, refl, sym, ap, ◌∙◌}
use mathlib.Core.Bool.{Bool, true, false}
use mathlib.Core.List.{List}
use Prim.Native.Nat.{ℕ}
use native.Mathlib.Omega.{arith}
use borrow.Author.Tests.{leb-false}
use Rattle.std.specs.Prelude.{Ok}
use Rattle.lists.specs.Keyed.{contains}
use Rattle.tree.specs.Book.{refused}
use Rattle.store.specs.declared.Format.{Format}
use Rattle.store.specs.declared.Format.TheVariants.{Plots}
use Rattle.store.specs.declared.Head.{Head}
use Rattle.store.specs.declared.Item.{Item}
use Rattle.store.specs.Head.{head_of, head_rule, page_start}
use lib.Dec.{leb}
use lib.ListN.{length}
use Rattle.store.proofs.HeadLaws.{head_long, head_whole}
use Rattle.page.specs.Page.{lawful_item}
use Rattle.page.specs.Schema.{key_of, unlawful}
use Rattle.search.specs.Way.{End}
use Rattle.search.specs.Descent.{descent, end_of}
use Rattle.search.proofs.WayLaws.{answered_err, damage_passed, end_is}
use Rattle.insert.specs.Enter.{own_items, undamaged, enter_reply}
use Rattle.insert.specs.Fine.{Accepted, Putting}
use Rattle.insert.proofs.Refusals.{enter_3, enter_6}
use Rattle.insert.proofs.EnterCode.{Begun, begun_limits, way_is, end_sound, begun_damaged, begun_held, accepted_limits, refuses}
use Rattle.insert.proofs.EnterCode.{Tested, tested_placing, room_tested, no_blocks, no_need, still, enters}
use Rattle.insert.proofs.enter.Goals as goal

-- a record outside its limits is refused with 6
outside : (f : Format) → unlawful f ≡ 6
unfolding unlawful
outside Plots = refl

begun : {f : Format} {s : List ℕ} {it : Item} {h : Head} {b l : Bool} → b ≡ head_rule f s → b ≡ true → l ≡ lawful_item f it → l ≡ true
    → h ≡ head_of s → Begun f s it h (descent f s h it.key)
begun e t p q o = record { rule = sym e ∙ t; lawful = sym p ∙ q; own = o; way = refl }

-- no damage is met, and the key is new
accepted : {f : Format} {s : List ℕ} {it : Item} {h : Head} → Begun f s it h (descent f s h it.key) → {e : End}
    → e ≡ end_of (descent f s h it.key) → undamaged f s h it.key (descent f s h it.key) ≡ true
    → contains key_of it.key (own_items f s h e.page) ≡ false → Accepted f s it h
accepted {f} {s} {it} {h} b q o n =
    record {
      rule = b.rule;
      lawful = b.lawful;
      own = b.own;
      sound = o;
      new = sym (ap (λ (x : End). contains key_of it.key (own_items f s h x.page)) q) ∙ n;
    }

pub returns-then-not-head_ok : goal.returns-then-not-head_ok
returns-then-not-head_ok c = refuses (enter_3 _ _ _ (sym c.head_ok.ensures ∙ c.if-not-head_ok.true))

pub returns-then-not-lawful_item : goal.returns-then-not-lawful_item
returns-then-not-lawful_item c =
    let r =
    refuses
    (enter_6 _ _ _ (sym c.head_ok.ensures ∙ c.if-not-head_ok.false) (sym c.lawful_item.ensures ∙ c.if-not-lawful_item.true)) in
    (ap refused (sym (outside c.args.f)) ∙ r.0, r.1)

pub head_of-head-requires : goal.head_of-head-requires
head_of-head-requires c = head_long _ _ (sym c.head_ok.ensures ∙ c.if-not-head_ok.false)

pub end_of-requires : goal.end_of-requires
end_of-requires c = record { rule = sym c.head_ok.ensures ∙ c.if-not-head_ok.false; head = c.head_of-head.ensures }

pub returns-in_err-e : goal.returns-in_err-e
returns-in_err-e c =
    let h = answered_err _ _ (sym c.in_err-e.was ∙ c.end_of.ensures.0) in
    let b = begun c.head_ok.ensures c.if-not-head_ok.false c.lawful_item.ensures c.if-not-lawful_item.false c.head_of-head.ensures in
    let r = refuses (begun_damaged b (sym (way_is _ _ _ _ _ refl false _ _ (sym h.0) refl refl))) in
    (ap enter_reply (damage_passed _ c.from_residual.ensures.1 h.1) ∙ r.0, r.1)

pub way_ok-requires : goal.way_ok-requires
way_ok-requires c =
    let l = begun_limits (begun c.head_ok.ensures c.if-not-head_ok.false c.lawful_item.ensures c.if-not-lawful_item.false c.head_of-head.ensures) in
    let e = end_is _ (sym c.in_ok-e.was ∙ c.end_of.ensures.0) in
    (l.1, l.3, rw (ap (λ x. x.used) e) c.end_of.ensures.1)

pub returns-then-not-way_ok : goal.returns-then-not-way_ok
returns-then-not-way_ok c =
    let e = end_is _ (sym c.in_ok-e.was ∙ c.end_of.ensures.0) in
    refuses
    (begun_damaged (begun c.head_ok.ensures c.if-not-head_ok.false c.lawful_item.ensures c.if-not-lawful_item.false c.head_of-head.ensures)
    (sym (c.way_ok.ensures _ e) ∙ c.if-not-way_ok.true))

pub held_at-requires : goal.held_at-requires
held_at-requires c =
    let a = c.args in
    let l = begun_limits (begun c.head_ok.ensures c.if-not-head_ok.false c.lawful_item.ensures c.if-not-lawful_item.false c.head_of-head.ensures) in
    let e = end_is _ (sym c.in_ok-e.was ∙ c.end_of.ensures.0) in
    let o = sym (c.way_ok.ensures _ e) ∙ c.if-not-way_ok.false in
    (l.1, l.3, end_sound a.f a.store.now c.head_of-head.result a.item.key (descent a.f a.store.now c.head_of-head.result a.item.key) e o)

pub returns-then-held_at : goal.returns-then-held_at
returns-then-held_at c =
    let a = c.args in
    let e = end_is _ (sym c.in_ok-e.was ∙ c.end_of.ensures.0) in
    refuses
    (begun_held (begun c.head_ok.ensures c.if-not-head_ok.false c.lawful_item.ensures c.if-not-lawful_item.false c.head_of-head.ensures)
    (sym (c.way_ok.ensures _ e) ∙ c.if-not-way_ok.false)
    (c.held_at.ensures ∙ ap (λ (x : End). contains key_of a.item.key (own_items a.f a.store.now c.head_of-head.result x.page)) e)
    c.if-held_at.true)

pub page_full-requires : goal.page_full-requires
page_full-requires c =
    let e = end_is _ (sym c.in_ok-e.was ∙ c.end_of.ensures.0) in
    let o = sym (c.way_ok.ensures _ e) ∙ c.if-not-way_ok.false in
    let k =
    accepted (begun c.head_ok.ensures c.if-not-head_ok.false c.lawful_item.ensures c.if-not-lawful_item.false c.head_of-head.ensures)
    e o (sym c.held_at.ensures ∙ c.if-held_at.false) in
    let l = accepted_limits k in
    (l.1, l.2, l.3)

pub enter_full-requires : goal.enter_full-requires
enter_full-requires c =
    let e = end_is _ (sym c.in_ok-e.was ∙ c.end_of.ensures.0) in
    let o = sym (c.way_ok.ensures _ e) ∙ c.if-not-way_ok.false in
    let k =
    accepted (begun c.head_ok.ensures c.if-not-head_ok.false c.lawful_item.ensures c.if-not-lawful_item.false c.head_of-head.ensures)
    e o (sym c.held_at.ensures ∙ c.if-held_at.false) in
    k

pub enter_null-requires : goal.enter_null-requires
enter_null-requires c =
    let e = end_is _ (sym c.in_ok-e.was ∙ c.end_of.ensures.0) in
    let o = sym (c.way_ok.ensures _ e) ∙ c.if-not-way_ok.false in
    let k =
    accepted (begun c.head_ok.ensures c.if-not-head_ok.false c.lawful_item.ensures c.if-not-lawful_item.false c.head_of-head.ensures)
    e o (sym c.held_at.ensures ∙ c.if-held_at.false) in
    (k, e, c.if-e-eq0.true)

pub page_start-at-requires : goal.page_start-at-requires
page_start-at-requires c =
    let e = end_is _ (sym c.in_ok-e.was ∙ c.end_of.ensures.0) in
    let o = sym (c.way_ok.ensures _ e) ∙ c.if-not-way_ok.false in
    let k =
    accepted (begun c.head_ok.ensures c.if-not-head_ok.false c.lawful_item.ensures c.if-not-lawful_item.false c.head_of-head.ensures)
    e o (sym c.held_at.ensures ∙ c.if-held_at.false) in
    let l = accepted_limits k in
    (l.1, l.3)

-- past all tests; and the place of the page in the words
tested : {f : Format} {s : List ℕ} {it : Item} {h : Head} → Accepted f s it h → {e : End} → e ≡ end_of (descent f s h it.key)
    → (e.page ≡ 0 → ⊥) → {b : Bool} → b ≡ leb h.capacity (length (own_items f s h e.page)) → b ≡ false
    → Tested f s it h (descent f s h it.key) (record { rounds = 0; nodes = 0; pages = 0 })
tested k e z r q = room_tested k e z (leb-false _ _ (sym r ∙ q))

putting : {f : Format} {s : List ℕ} {it : Item} {h : Head} {e : End} {at : ℕ}
    → Tested f s it h (descent f s h it.key) (record { rounds = 0; nodes = 0; pages = 0 }) → e ≡ end_of (descent f s h it.key)
    → (e.page ≡ 0 → ⊥) → at ≡ page_start f h e.page → Putting f s at h.capacity it h e (descent f s h it.key)
putting t e z b =
    record { placing = tested_placing t (no_need _) (no_blocks _ _) refl e; some = z; begins = b; capacity_is = refl }

pub put_own-requires : goal.put_own-requires
put_own-requires c =
    let e = end_is _ (sym c.in_ok-e.was ∙ c.end_of.ensures.0) in
    let o = sym (c.way_ok.ensures _ e) ∙ c.if-not-way_ok.false in
    let k =
    accepted (begun c.head_ok.ensures c.if-not-head_ok.false c.lawful_item.ensures c.if-not-lawful_item.false c.head_of-head.ensures)
    e o (sym c.held_at.ensures ∙ c.if-held_at.false) in
    let t = tested k e c.if-e-eq0.false c.page_full.ensures c.if-page_full.false in
    record { head = _; end = _; way = _; putting = putting t e c.if-e-eq0.false c.page_start-at.ensures.0 }

pub entry_done-requires : goal.entry_done-requires
entry_done-requires c =
    let e = end_is _ (sym c.in_ok-e.was ∙ c.end_of.ensures.0) in
    let o = sym (c.way_ok.ensures _ e) ∙ c.if-not-way_ok.false in
    let k =
    accepted (begun c.head_ok.ensures c.if-not-head_ok.false c.lawful_item.ensures c.if-not-lawful_item.false c.head_of-head.ensures)
    e o (sym c.held_at.ensures ∙ c.if-held_at.false) in
    let t = tested k e c.if-e-eq0.false c.page_full.ensures c.if-page_full.false in
    let p = putting t e c.if-e-eq0.false c.page_start-at.ensures.0 in
    (omega (arith, c.put_own.auto.store, head_whole _ _ k.rule), (c.put_own.ensures _ _ _ p).0)

pub returns : goal.returns
returns c =
    let e = end_is _ (sym c.in_ok-e.was ∙ c.end_of.ensures.0) in
    let o = sym (c.way_ok.ensures _ e) ∙ c.if-not-way_ok.false in
    let k =
    accepted (begun c.head_ok.ensures c.if-not-head_ok.false c.lawful_item.ensures c.if-not-lawful_item.false c.head_of-head.ensures)
    e o (sym c.held_at.ensures ∙ c.if-held_at.false) in
    let t = tested k e c.if-e-eq0.false c.page_full.ensures c.if-page_full.false in
    let p = putting t e c.if-e-eq0.false c.page_start-at.ensures.0 in
    enters (still t (no_need _) (no_blocks _ _)) (c.put_own.ensures _ _ _ p).1 (Ok c.entry_done.result)
    (c.entry_done.ensures c.args.item refl)
