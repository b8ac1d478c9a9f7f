-- The entries from j on, paired after those so far, are all entries.
use mathlib.Core.Path.{◌≡◌}
use Prim.Native.Nat.{◌-◌}
use Rattle.store.specs.Head.{word}
use Rattle.raw.specs.Twins.{both, paired_from}
use Rattle.raw.proofs.twins.pair_children.Given as goal

abbrev pub invariant-loop-j : goal.invariant-loop-j
invariant-loop-j l =
    let w = word l.initial.twins l.a in
    paired_from l.x l.y l.a w (both l.twins l.queue) l.j (l.j-end - l.j)
    ≡ paired_from l.x l.y l.a w (both l.initial.twins l.initial.queue) 0 l.j-end
