-- The rounds that are left, made from where the loop stands, come to what all of them come to from the start.
use mathlib.Core.Path.{◌≡◌, ap, ◌∙◌}
use Prim.Native.Nat.{ℕ, ◌+◌, ◌-◌, ◌<◌, ◌≤◌}
use native.Mathlib.Omega.{arith}
use Rattle.search.specs.Way.{sound_descent}
use Rattle.insert.specs.Enter.{way_of, rounds_of}
use Rattle.insert.proofs.EnterCode.{turn_can, turn_fine, turn_rest, rounds_over}
use Rattle.insert.proofs.make_room.Goals as goal

all : (n : ℕ) → n - 0 ≡ n
all n = omega arith

less_one : (n i : ℕ) → n - (i + 1) ≡ n - i - 1
less_one n i = omega arith

pub loop-round-init : goal.loop-round-init
loop-round-init c =
    let a = c.args in
    let h = a.start.head in
    let w = way_of a.f a.store.now h a.key (sound_descent a.start.down) in (
      c.requires.0,
      rw (all a.rounds) c.requires.2,
      ap (λ n. rounds_of a.f h.theta h.capacity a.key n w) (all a.rounds),
    )

pub turn-course-requires : goal.turn-course-requires
turn-course-requires c =
    let l = c.loop-round in
    (l.invariant.0, c.requires.1, turn_can _ _ _ _ _ _ _ _ l.invariant.1 (omega arith))

pub loop-round-preserved : goal.loop-round-preserved
loop-round-preserved c =
    let a = c.args in
    let h = a.start.head in
    let l = c.loop-round in
    let t = c.turn-course in
    let more : 0 < a.rounds - l._round = omega arith in
    let w = way_of a.f t.new.store t.result.head a.key (sound_descent t.result.down) in
    let one = less_one a.rounds l._round in (
      t.ensures.0,
      rw one (turn_fine _ _ _ _ _ _ _ _ l.invariant.1 more l.invariant.0.head_is t.ensures.1),
      ap (λ n. rounds_of a.f h.theta h.capacity a.key n w) one
          ∙ turn_rest _ _ _ _ _ _ _ _ l.invariant.1 more l.invariant.0.head_is t.ensures.1 l.invariant.2,
    )

pub returns : goal.returns
returns c =
    let l = c.loop-round in
    (l.invariant.0, rounds_over _ _ _ _ (let z : c.args.rounds - l._round ≤ 0 = omega arith in z) l.invariant.2)
