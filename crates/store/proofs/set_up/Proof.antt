-- Refused by its tests; else the size is cleared and the few words that are not 0 are written.
use borrow.Author.Rules.{rules}
use mathlib.Core.Path.{◌≡◌, sym}
use mathlib.Core.Bool.{true}
use Prim.Native.Nat.{◌≤◌}
use lib.ListN.{replicate}
use lib.Seq.{length-take-le}
use Rattle.lists.proofs.Tests.{passed, failed}
use Rattle.store.specs.Head.{lawful_sizes}
use Rattle.store.proofs.HeadLaws.{sizes_limits}
use Rattle.store.proofs.SetUpLaws.{at_least, marked_is, outside, short, done, cleared, long_enough}
use Rattle.store.proofs.set_up.Statement.{statement}
use Rattle.store.proofs.set_up.Tie as tie

-- the sizes are lawful
lawful : (c : tie.Else-not-sizes_ok)
    → let a = c.args in lawful_sizes a.theta a.capacity a.nodes a.pages ≡ true
lawful c = passed c.sizes_ok.ensures c.if-not-sizes_ok.false-raw

-- the size holds a head and the start of node 1
low : (c : tie.Else-store-n) → 18 ≤ c.size_of-n.result
low c = at_least _ _ _ _ _ _ c.size_of-n.ensures.0 (lawful c.before.before)

-- the part is zeros
zeroed : (c : tie.After-clear) → c.clear.new.part ≡ replicate c.size_of-n.result 0
zeroed c = cleared _ _ _ c.if-store-n.false c.clear.ensures

returns : tie.Need-returns-then-not-sizes_ok
returns c = outside _ _ _ _ _ _ (failed c.sizes_ok.ensures c.if-not-sizes_ok.true-raw)

size_of_requires : tie.Need-size_of-n-requires
size_of_requires c κs = let l = sizes_limits _ _ _ _ (lawful c) in (l.theta, l.capacity, l.nodes, l.pages)

returns_2 : tie.Need-returns-then-store-n
returns_2 c = short _ _ _ _ _ _ (lawful c.before.before) (rw c.size_of-n.ensures.0 at c.if-store-n.true)

slice_aggregate_clear : tie.Need-slice_bounds-clear-end-2
slice_aggregate_clear c = sym (length-take-le _ _ c.if-store-n.false)

mark_requires : tie.Need-mark-requires
mark_requires c κs =
    let p = c.before.before.before in long_enough _ _ _ (low p.before.before) (zeroed p)

returns_3 : tie.Need-returns
returns_3 c =
    let p = c.before.before.before.before.before.before in
    let q = p.before.before in
    let e = q.size_of-n.ensures.0 in
    done _ _ _ _ _ _ _ _ (lawful q.before.before) e q.if-store-n.false
    (marked_is _ _ _ _ _ _ _ _ _ e (low q) (zeroed p) c.mark.ensures)

pub set_up_spec : {M : Type 1} → statement M
set_up_spec =
    tie.close
    (tie.spec (λ c κs. search rules) returns size_of_requires returns_2 (λ c. search rules) slice_aggregate_clear (λ c κs. search rules)
    mark_requires (λ c. search rules) (λ c. search rules) returns_3)
