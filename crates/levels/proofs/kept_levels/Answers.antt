-- What the levels up to l keep is what all keep.
use mathlib.Core.Path.{◌≡◌, sym, ◌∙◌}
use Prim.Native.Nat.{ℕ, zero, suc, ◌+◌, ◌-◌, ◌≤◌, ◌<◌, min}
use native.Mathlib.Omega.{arith}
use lib.ListN.{get_or}
use Rattle.remove.specs.Remove.{no_spot}
use Rattle.levels.proofs.RootLaws.{keeps_start, keeps_turn, keeps_top, keeps_last}
use Rattle.levels.proofs.kept_levels.Goals as goal

pub loop-l-init : goal.loop-l-init
loop-l-init c = (λ p. p, λ xs y. keeps_start xs _ y.long)

pub depth_of-requires : goal.depth_of-requires
depth_of-requires c =
    let p = c.requires in
    let l = c.loop-l in
    (p.0, p.1, p.2, λ i a b. p.3 i a (omega (arith, b, l.auto.l, c.loop-l-test.true)))

pub returns-then-depth_of-ne0 : goal.returns-then-depth_of-ne0
returns-then-depth_of-ne0 c =
    let l = c.loop-l in
    let some : 1 < l.l = omega (arith, c.loop-l-test.true) in
    let one : l.l - 1 + 1 ≡ l.l = omega (arith, some) in (
      λ xs y. one ∙ keeps_top xs _ l.l y.long l.auto.l some
          (λ e. c.if-depth_of-ne0.true (c.depth_of.ensures (get_or xs (l.l - 1) no_spot) (y.each _ (omega (arith, some, l.auto.l))) ∙ e))
          (l.invariant.1 xs y),
      omega (arith, one, l.auto.l),
      λ p. omega arith,
    )

pub loop-l-preserved : goal.loop-l-preserved
loop-l-preserved c =
    let l = c.loop-l in
    let some : 1 < l.l = omega (arith, c.loop-l-test.true) in (
      λ p. omega (arith, some),
      λ xs y. keeps_turn xs _ l.l y.long l.auto.l some
          (sym (c.depth_of.ensures (get_or xs (l.l - 1) no_spot) (y.each _ (omega (arith, some, l.auto.l)))) ∙ c.if-depth_of-ne0.false)
          (l.invariant.1 xs y),
    )

-- the lowest level stays
lowest : (levels l : ℕ) → l ≤ 1 → l ≤ levels → (1 ≤ levels → 1 ≤ l) → min levels 1 ≡ l
lowest zero l few in_all a = omega (arith, in_all)
lowest (suc n) l few in_all a = omega (arith, few, a (omega arith))

pub returns : goal.returns
returns c =
    let l = c.loop-l in
    let few = c.loop-l-test.false in
    let e : c.min.result ≡ l.l = c.min.ensures ∙ lowest c.args.levels l.l few l.auto.l l.invariant.0 in (
      λ xs y. e ∙ keeps_last xs _ l.l y.long l.auto.l few (l.invariant.1 xs y),
      omega (arith, e, l.auto.l),
      λ p. omega (arith, e, l.invariant.0 p),
    )
