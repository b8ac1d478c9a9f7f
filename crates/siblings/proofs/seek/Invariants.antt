-- What is left of the descent to the sibling is the whole.
use Rattle.std.proofs.Common.{◌≡◌, ◌≤◌}
use Rattle.store.specs.Format.{width}
use Rattle.store.specs.Head.{InUse}
use Rattle.siblings.specs.Marks.{Passed}
use Rattle.siblings.proofs.SeekLaws.{Going}
use Rattle.siblings.proofs.seek.Given as goal

abbrev pub invariant-loop-below : goal.invariant-loop-below
invariant-loop-below l =
    (l.used ≤ l.m) × (l.target ≤ l.below) × (1 ≤ l.below → InUse l.head l.node)
    × ((low : l.m ≤ width l.f) → Going l.f l.store l.head l.key l.m l.target low l.fn.marks l.below l.node l.used l.marks)
    × (l.below ≡ 0 → l.node ≤ l.head.pages_taken) × Passed l.f l.store l.head l.marks
