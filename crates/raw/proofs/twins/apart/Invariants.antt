-- What is said of the nodes from a on, after those seen, is said of all.
use mathlib.Core.Path.{◌≡◌}
use Prim.Native.Nat.{◌-◌}
use lib.ListN.{replicate}
use Rattle.raw.specs.Twins.{apart_from}
use Rattle.raw.proofs.twins.apart.Given as goal

abbrev pub invariant-loop-a : goal.invariant-loop-a
invariant-loop-a l = apart_from l.twins l.seen l.a (l.nodes - l.a) ≡ apart_from l.twins (replicate 4097 0) 0 l.nodes
