-- None of the blocks passed so far is the one that is sought.
use Rattle.std.proofs.Common.{◌≡◌}
use mathlib.Core.Bool.{false}
use Rattle.store.specs.Released.{node_next, after_all, passed, member}
use Rattle.store.proofs.node_seen.Given as goal

abbrev pub invariant-loop-i : goal.invariant-loop-i
invariant-loop-i l =
    (l.x ≡ after_all (node_next l.store) l._i l.first) × (member l.name (passed (node_next l.store) l._i l.first) ≡ false)
