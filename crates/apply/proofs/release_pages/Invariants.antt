-- The pages that are left, released after those that are, are all of them.
use Rattle.std.proofs.Common.{◌≡◌, ◌+◌, ◌-◌, ◌^◌, ◌<◌, length, drop}
use Rattle.store.specs.Head.{word, head_of}
use Rattle.split.specs.Insertion.{SameSizes}
use Rattle.remove.specs.Remove.{release_pages}
use Rattle.apply.proofs.release_pages.Given as goal

abbrev pub invariant-loop-page : goal.invariant-loop-page
invariant-loop-page l = record {
  sizes : SameSizes (head_of l.store) l.head;
  room : word l.store 11 + (length l.pages - l.page-index) < 2 ^ 32;
  left : release_pages l.f l.store (drop l.page-index l.pages) ≡ release_pages l.f l.initial.store l.pages;
  nodes : word l.store 10 ≡ word l.initial.store 10;
}
