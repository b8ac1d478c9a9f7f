-- The nodes above node n, written after those so far, are the five of the path.
use mathlib.Core.Path.{◌≡◌}
use Prim.Native.Nat.{◌-◌}
use Rattle.faults.specs.Faults.{path_put}
use Rattle.faults.proofs.put_path.Given as goal

abbrev pub invariant-loop-n : goal.invariant-loop-n
invariant-loop-n l = path_put l.store l.n (6 - l.n) ≡ path_put l.initial.store 1 5
