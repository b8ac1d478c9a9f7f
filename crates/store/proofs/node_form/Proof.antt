-- Two parts of the block are zeros.
use borrow.Author.Rules.{rules}
use mathlib.Core.Path.{◌≡◌, refl, sym}
use mathlib.Core.Bool.{true, false}
use Prim.Native.Nat.{◌+◌, ◌≤◌}
use native.Mathlib.Omega.{arith}
use lib.ListN.{length}
use Rattle.lists.proofs.Tests.{passed, failed}
use Rattle.store.specs.Head.{zeros}
use Rattle.store.proofs.Places.{under_limits, node_inside, node_words_low, zeros_first, zeros_rest}
use Rattle.store.proofs.ChainLaws.{node_form_is}
use Rattle.store.proofs.node_form.Statement.{statement}
use Rattle.store.proofs.node_form.Tie as tie

-- the block as it begins
inside : (c : tie.After-node_start-at) → c.node_start-at.result + 6 ≤ length c.args.store.now
inside c =
    let p = c.requires in
    omega (arith, node_inside p.0 p.1, node_words_low c.args.head.theta, c.node_start-at.ensures.0)

links : (c : tie.After-is_zero)
    → c.is_zero.result ≡ zeros c.args.store.now c.node_start-at.result 2
links c = zeros_first _ _ _ _ c.is_zero.ensures (omega (arith, inside c.before.before))

returns : tie.Need-returns-then-not-is_zero
returns c =
    let q = c.before.before.before in
    node_form_is _ _ _ _ _ false _ q.requires.0.head q.node_start-at.ensures.0 refl
    (sym (failed (links c.before) c.if-not-is_zero.true-raw)) refl

returns_2 : tie.Need-returns
returns_2 c =
    let z = c.before.before.before.before in
    let q = z.before.before in
    let n = c.node_words.ensures in
    let p = q.requires in
    node_form_is _ _ _ _ _ true _ p.0.head q.node_start-at.ensures.0 n.0
    (sym (passed (links z) c.if-not-is_zero.false-raw))
    (zeros_rest _ _ _ _ _ c.is_zero-2.ensures (omega (arith, n.1))
    (omega (arith, node_inside p.0 p.1, q.node_start-at.ensures.0, n.0)))

part_is_zero_end_2 : tie.Need-slice_bounds-is_zero-end-2
part_is_zero_end_2 c =
    let q = c.before.before.before.before in
    let p = q.requires in
    omega (arith, node_inside p.0 p.1, q.node_start-at.ensures.0, c.node_words.ensures.0)

pub node_form_spec : {M : Type 1} → statement M
node_form_spec =
    tie.close
    (tie.spec (λ c κs. (under_limits c.requires.0).theta) (λ c. search rules) (λ c. search rules) (λ c. search rules)
    (λ c. search rules) (λ c. omega (arith, inside c)) (λ c κs. search rules) returns (λ c. search rules)
    (λ c κs. (under_limits c.requires.0).theta) (λ c. search rules) (λ c. search rules)
    (λ c. search rules) (λ c. search rules) part_is_zero_end_2 (λ c κs. search rules) returns_2)
