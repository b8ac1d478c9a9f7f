-- The promises of specs/Promises.antt.
use mathlib.Core.Path.{refl}
use mathlib.Core.List.{List}
use Prim.Native.Nat.{ℕ, zero, suc, ◌≤◌}
use native.Mathlib.Decide.{dec_le}
use native.Mathlib.Omega.{arith}
use Rattle.lists.specs.Lists.{greatest}
use Rattle.lists.proofs.Tests.{greatest_at}
use Rattle.split.specs.Value.{new_depth, running}
use Rattle.split.specs.Promises.{NodeOpsAre, OneOf, RunsAsLargest}
use Rattle.split.proofs.ValueLaws.{greatest_next}
use Rattle.split.proofs.BlockLaws.{node_ops_are}

pub node_operations : NodeOpsAre
node_operations = node_ops_are

one_of : (ws : List ℕ) (start j : ℕ) → OneOf ws start (suc j)
unfolding running greatest
one_of ws start zero = record { entry = 0; within = omega arith; is = omega arith }
one_of ws start (suc j) =
    let o = one_of ws start j in
    elim (dec_le (running ws start (suc j)) (new_depth ws start (suc j))) [
      | yes h ↦ record { entry = suc j; within = omega arith; is = omega (arith, h) }
      | no h ↦ record { entry = o.entry; within = omega (arith, o.within); is = omega (arith, h, o.is) }
    ]

some_of : (ws : List ℕ) (start j : ℕ) → 1 ≤ j → OneOf ws start j
some_of ws start zero h = absurd (omega arith)
some_of ws start (suc j) h = one_of ws start j

pub runs_as_largest : RunsAsLargest
unfolding running greatest
runs_as_largest ws start j =
    (refl, greatest_next j (new_depth ws start), greatest_at j (new_depth ws start), some_of ws start j)
