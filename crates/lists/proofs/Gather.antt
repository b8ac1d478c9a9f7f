-- Bits gathered by "or": what the gathered bits say of each number. And "exclusive or": it is 0 just where two numbers are equal.
use mathlib.Core.Path.{◌≡◌}
use mathlib.Core.Bool.{◌&&◌}
use Prim.Native.Nat.{ℕ, ◌^◌, ◌≤◌, ◌<◌}
use native.Mathlib.Omega.{arith}
use lib.Dec.{ltb, eqb}
use lib.Bits.{bit_or, bit_xor, and_le_l, and_le_r, or_lt, or_add_and, xor_add_and}
use borrow.Author.Tests.{eqb-true, eq-eqb, ltb-true, lt-ltb}
use Rattle.lists.proofs.Tests.{and_true, same_test}

pub or_above : (a b : ℕ) → (a ≤ bit_or a b) × (b ≤ bit_or a b)
or_above a b = (omega (arith, or_add_and a b, and_le_r a b), omega (arith, or_add_and a b, and_le_l a b))

pub or_none : (a b : ℕ) → bit_or a b ≡ 0 → (a ≡ 0) × (b ≡ 0)
or_none a b e = let l = or_above a b in (omega (arith, l.0), omega (arith, l.1))

pub none_or : (a b : ℕ) → a ≡ 0 → b ≡ 0 → bit_or a b ≡ 0
none_or a b p q = omega (arith, or_add_and a b)

pub or_zero : (a b : ℕ) → eqb (bit_or a b) 0 ≡ (eqb a 0 && eqb b 0)
or_zero a b =
    same_test _ _
    (λ t. let z = or_none a b (eqb-true _ _ t) in rw (eq-eqb a 0 z.0) (eq-eqb b 0 z.1))
    (λ t. let z = and_true _ _ t in eq-eqb _ _ (none_or a b (eqb-true _ _ z.0) (eqb-true _ _ z.1)))

pub or_below : (k a b : ℕ) → ltb (bit_or a b) (2 ^ k) ≡ (ltb a (2 ^ k) && ltb b (2 ^ k))
or_below k a b =
    same_test _ _
    (λ t. let l = or_above a b in
    let u : bit_or a b < 2 ^ k = ltb-true _ _ t in
    rw (lt-ltb a (2 ^ k) (omega (arith, l.0))) (lt-ltb b (2 ^ k) (omega (arith, l.1))))
    (λ t. let z = and_true _ _ t in lt-ltb _ _ (or_lt k a b (ltb-true _ _ z.0) (ltb-true _ _ z.1)))

pub xor_none : (a b : ℕ) → bit_xor a b ≡ 0 → a ≡ b
xor_none a b e = omega (arith, xor_add_and a b, and_le_l a b, and_le_r a b)
