-- Test by test.
use borrow.Author.Rules.{rules}
use mathlib.Core.Path.{◌≡◌, refl, sym, ◌∙◌}
use mathlib.Core.Bool.{Bool, true, false}
use mathlib.Core.List.{List}
use Prim.Native.Nat.{ℕ}
use native.Mathlib.Omega.{arith}
use borrow.Author.Tests.{le-leb}
use lib.Dec.{leb}
use lib.ListN.{length}
use Rattle.lists.proofs.Tests.{passed, failed}
use Rattle.store.specs.declared.Head.{Head}
use Rattle.store.specs.declared.Released.{Released}
use Rattle.store.specs.Head.{head_of, lawful_sizes, zeros, size, released_of, lawful_released}
use Rattle.store.proofs.HeadLaws.{Limits, rule_is, rule_short, sizes_limits, size_head}
use Rattle.store.proofs.Places.{zeros_lent}
use Rattle.store.proofs.head_ok.Statement.{statement}
use Rattle.store.proofs.head_ok.Tie as tie

-- places: the head read, then its sizes lawful
abbrev read : tie.Else-not-sizes_ok → tie.After-head_of-head
read c = c.before.before

abbrev call : tie.Else-not-sizes_ok → tie.Start
call c = (read c).before.before.before

abbrev lawful : tie.Else-size_of-store → tie.Else-not-sizes_ok
lawful c = c.before.before

-- what the tests passed so far say
sizes : (c : tie.Else-not-sizes_ok)
    → let h = (read c).head_of-head.result in lawful_sizes h.theta h.capacity h.node_blocks h.page_blocks ≡ true
sizes c = passed c.sizes_ok.ensures c.if-not-sizes_ok.false-raw

limits : (c : tie.Else-not-sizes_ok) → let h = (read c).head_of-head.result in Limits h.theta h.capacity h.node_blocks h.page_blocks
limits c = sizes_limits _ _ _ _ (sizes c)

enough : (c : tie.Else-size_of-store)
    → let a = (call (lawful c)).args in
    let h = (read (lawful c)).head_of-head.result in
    leb (size a.f h.theta h.capacity h.node_blocks h.page_blocks) (length a.store.now) ≡ true
enough c = le-leb _ _ (rw c.size_of.ensures.0 at c.if-size_of-store.false)

-- the four words as they are lent
spare : (c : tie.After-is_zero) → c.is_zero.result ≡ zeros (call (lawful c.before.before)).args.store.now 12 4
spare c = c.is_zero.ensures ∙ zeros_lent _ 12 16 (omega arith) (read (lawful c.before.before)).if-store-lt16.false

released_read : (h : Head) (r : Released) (s : List ℕ) (b : Bool) → b ≡ lawful_released h r → r ≡ released_of s
    → b ≡ lawful_released h (released_of s)
released_read h r s b e q = rw (← q) e

returns : tie.Need-returns-then-store-lt16
returns c =
    let a = c.args in
    let h = head_of a.store.now in
    rule_short a.f _ h refl (omega (arith, c.if-store-lt16.true, size_head a.f h.theta h.capacity h.node_blocks h.page_blocks))

returns_2 : tie.Need-returns-then-not-sizes_ok
returns_2 c =
    rule_is _ _ _ false _ _ _ _ c.head_of-head.ensures
    (sym (failed c.sizes_ok.ensures c.if-not-sizes_ok.true-raw)) refl refl refl refl

size_of_requires : tie.Need-size_of-requires
size_of_requires c κs = let l = limits c in (l.theta, l.capacity, l.nodes, l.pages)

returns_3 : tie.Need-returns-then-size_of-store
returns_3 c = rule_short _ _ _ (read c.before.before).head_of-head.ensures (rw c.size_of.ensures.0 at c.if-size_of-store.true)

part_is_zero_end : tie.Need-slice_bounds-is_zero-end
part_is_zero_end c = (read (lawful c)).if-store-lt16.false

returns_4 : tie.Need-returns-then-not-is_zero
returns_4 c =
    let q = c.before.before.before in
    rule_is _ _ _ true false true _ _ (read (lawful q)).head_of-head.ensures (sym (sizes (lawful q)))
    (sym (failed (spare c.before) c.if-not-is_zero.true-raw)) (sym (enough q)) refl refl

counts_ok_requires : tie.Need-counts_ok-requires
counts_ok_requires c κs = let l = limits (lawful c.before.before.before) in (l.theta_low, l.theta, l.capacity_low, l.capacity)

returns_5 : tie.Need-returns-then-not-counts_ok
returns_5 c =
    let q = c.before.before.before.before.before in
    rule_is _ _ _ true true true false _ (read (lawful q)).head_of-head.ensures (sym (sizes (lawful q)))
    (sym (passed (spare c.before.before.before) c.if-not-is_zero.false-raw)) (sym (enough q))
    (sym (failed c.counts_ok.ensures c.if-not-counts_ok.true-raw)) refl

returns_6 : tie.Need-returns
returns_6 c =
    let k = c.before.before.before in
    let q = k.before.before.before.before in
    rule_is _ _ _ true true true true _ (read (lawful q)).head_of-head.ensures (sym (sizes (lawful q)))
    (sym (passed (spare k.before.before) k.if-not-is_zero.false-raw)) (sym (enough q))
    (sym (passed k.counts_ok.ensures c.if-not-counts_ok.false-raw))
    (released_read _ _ _ _ c.released_ok.ensures c.released_of.ensures)

pub head_ok_spec : {M : Type 1} → statement M
head_ok_spec =
    tie.close
    (tie.spec returns (λ c κs. search rules) (λ c κs. search rules) returns_2 size_of_requires returns_3 (λ c. search rules)
    (λ c. search rules) part_is_zero_end (λ c κs. search rules) returns_4 counts_ok_requires returns_5 (λ c κs. search rules)
    (λ c κs. search rules) returns_6)
