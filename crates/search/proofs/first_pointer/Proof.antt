-- The walk has passed only null pointers so far, and each turn uses one run of the fuel.
use borrow.Author.Rules.{rules}
use mathlib.Core.Path.{◌≡◌, refl}
use Prim.Native.Nat.{◌-◌, ◌^◌, ◌≤◌}
use native.Mathlib.Omega.{arith}
use Rattle.search.proofs.NextLaws.{Walked, walked_none, walked_here, walked_on, walked_end}
use Rattle.search.proofs.first_pointer.Statement.{statement}
use Rattle.search.proofs.first_pointer.Tie as tie

abbrev invariant-loop : tie.invariant-loop-i
invariant-loop node depth start n i₀ i = (n ≡ 2 ^ depth) × (n ≤ 64) × Walked node 0 depth start i

abbrev decreases-loop : tie.decreases-loop-i
decreases-loop node depth start n i₀ i = n - i

loop_holds : tie.Need-loop-i-init invariant-loop decreases-loop
loop_holds c = (c.pow2-n.ensures.0, c.pow2-n.ensures.2, walked_none _ _ _ _ c.requires.0)

returns : tie.Need-returns-then-p-ne0 invariant-loop decreases-loop
returns c =
    let l = c.loop-i in
    walked_here _ _ _ l.invariant.2 (omega (arith, l.invariant.0)) refl c.if-p-ne0.true

loop_again : tie.Need-loop-i-preserved invariant-loop decreases-loop
loop_again c =
    let p = c.before.before.before in
    let l = p.loop-i in (
      l.invariant.0,
      l.invariant.1,
      walked_on _ _ _ l.invariant.2 (omega (arith, l.invariant.0)) refl p.if-p-ne0.false refl c.saturating_sub.ensures c.pow2-i.ensures.0,
    )

returns_2 : tie.Need-returns invariant-loop decreases-loop
returns_2 c = walked_end _ _ _ c.loop-i.invariant.2 (omega (arith, c.loop-i.invariant.0))

pub first_pointer_spec : {M : Type 1} → statement M
first_pointer_spec =
    tie.close
    (tie.spec invariant-loop decreases-loop (λ c κs. search rules) loop_holds (λ c. search rules) (λ c. search rules) (λ c. search rules)
    (λ c. search rules) returns (λ c. search rules) (λ c. search rules) (λ c. search rules) (λ c. search rules) (λ c κs. search rules)
    (λ c κs. search rules) (λ c. search rules) (λ c. search rules) loop_again returns_2)
