-- What is left to join with the page in hand is the whole.
use Rattle.std.proofs.Common.{◌≡◌, ◌+◌, ◌≤◌, List, take, drop}
use Rattle.lists.specs.Lists.{All}
use Rattle.remove.specs.Remove.{Reach}
use Rattle.siblings.specs.Pages.{pages_by, Joinable}
use Rattle.gather.specs.Gather.{start_of}
use Rattle.gather.proofs.GatherLaws.{Gathering}
use Rattle.gather.proofs.gather_page.Given as goal

abbrev pub invariant-loop-mate : goal.invariant-loop-mate
invariant-loop-mate l = record {
  used_up : l.mate-index + l.left ≡ l.used;
  few : l.hand.lost ≤ l.mate-index + 1;
  joinable : All (Joinable l.f l.store l.head) (drop l.mate-index (take l.n l.mates));
  whole : (rs : List Reach) → Gathering l.f l.store l.head l.key
      (pages_by l.f l.store l.head l.key (start_of l.f l.store l.head l.key l.used l.page rs) (take l.n l.mates)) l.left l.hand l.items l.lost
      (drop l.mate-index (take l.n l.mates));
}
