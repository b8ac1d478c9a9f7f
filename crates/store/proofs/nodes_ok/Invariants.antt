-- What is left of the test, from the block reached on, is the whole test.
use Rattle.std.proofs.Common.{◌≡◌, ◌≤◌, ◌-◌}
use Rattle.store.specs.Released.{node_form, node_next, after_all, passed, chain_ok, nodes_ok}
use Rattle.store.proofs.HeadLaws.{Named}
use Rattle.store.proofs.nodes_ok.Given as goal

abbrev pub invariant-loop-i : goal.invariant-loop-i
invariant-loop-i l =
    (l.i ≤ l.r.nodes) × (l.name ≡ after_all (node_next l.store) l.i l.r.node) × Named l.name (l.r.nodes - l.i) l.head.nodes_taken
    × (chain_ok (node_form l.store) (node_next l.store) l.head.nodes_taken (l.n - l.i) (l.r.nodes - l.i) l.name
    (passed (node_next l.store) l.i l.r.node) ≡ nodes_ok l.store l.n)
