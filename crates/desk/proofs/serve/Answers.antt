-- A turn has its room; the loop ends where nothing is left to do, or no room.
use Rattle.std.proofs.Common.{◌≡◌, ◌∙◌, ◌⊎◌, ◌≤◌, ℕ, arith, sym, refl, inl, inr}
use Rattle.desk.proofs.ServeLaws.{serves_then, serves_over, goes_on_room, part_long_lem}
use Rattle.desk.proofs.serve.Goals as goal

more : {P : Type 0} {n m : ℕ} → m ≡ n → P ⊎ (1 ≤ n) → P ⊎ (1 ≤ m)
more e (inl p) = inl p
more e (inr h) = inr (omega arith)

pub turn-t-requires : goal.turn-t-requires
turn-t-requires c =
    let l = c.loop-store in
    let r = goes_on_room l.desk _ _ (sym c.goes_on.ensures ∙ c.loop-store-test.true) in
    (omega (arith, r.0, part_long_lem l.out l.put), more (part_long_lem c.args.input.now l.taken) r.1)

pub loop-store-preserved : goal.loop-store-preserved
loop-store-preserved c =
    let s = serves_then _ _ _ _ _ _ _ _ _ _ _ c.loop-store.invariant.0 c.turn-t.ensures.0 refl in
    (s, s.taken, omega (arith, s.put, s.long))

pub returns : goal.returns
returns c =
    let l = c.loop-store in
    let s = l.invariant.0 in
    (s, serves_over c.args.input.now c.args.out.now l.out _ s.long s.taken s.put (sym c.goes_on.ensures ∙ c.loop-store-test.false))
