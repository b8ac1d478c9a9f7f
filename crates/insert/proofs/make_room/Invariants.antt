-- The rounds that are left, made from where the loop stands, come to what all of them come to from the start.
use Rattle.std.proofs.Common.{◌≡◌, ◌-◌}
use Rattle.search.specs.Way.{sound_descent}
use Rattle.insert.specs.Enter.{way_of, rounds_of}
use Rattle.insert.specs.Fine.{Carries, Fine}
use Rattle.insert.proofs.make_room.Given as goal

abbrev pub invariant-loop-round : goal.invariant-loop-round
invariant-loop-round l =
    let at = way_of l.f l.store l.course.head l.key (sound_descent l.course.down) in
    let h = l.fn.start.head in
    Carries l.store l.course.head l.course.down.steps × Fine l.f h.theta h.capacity l.key (l.rounds - l._round) at
    × (rounds_of l.f h.theta h.capacity l.key (l.rounds - l._round) at
    ≡ rounds_of l.f h.theta h.capacity l.key l.rounds (way_of l.f l.initial.store h l.key (sound_descent l.fn.start.down)))
