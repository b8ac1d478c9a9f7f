-- What is left to join from the stretch in hand is the whole.
use Rattle.std.proofs.Common.{◌≡◌, true, ◌+◌, ◌-◌, ◌≤◌, length, take}
use Rattle.lists.specs.Lists.{All}
use Rattle.store.specs.Format.{width}
use Rattle.remove.specs.Remove.{Pages}
use Rattle.siblings.specs.Marks.{Tracks, Passed}
use Rattle.siblings.specs.Pages.{Joinable, records_in}
use Rattle.siblings.proofs.PageJoinLaws.{Joining}
use Rattle.siblings.proofs.join_pages.Given as goal

abbrev pub invariant-loop-n : goal.invariant-loop-n
invariant-loop-n l =
    (l.held ≤ l.head.capacity)
    × ((g : Pages) → g.ok ≡ true → g.used ≡ l.used → length g.items ≡ l.count → Tracks (width l.f) l.key g.reached l.fn.marks
    → Joining l.f l.store l.head l.key g (l.used - l.n) l.n l.held l.mates l.marks)
    × All (Joinable l.f l.store l.head) (take l.n l.mates) × (l.count + records_in l.f l.store l.head (take l.n l.mates) ≡ l.held)
    × Passed l.f l.store l.head l.marks
