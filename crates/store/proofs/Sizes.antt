-- Bounds on sizes and positions, so that sums and products of them fit a machine word; and the logarithm by its two bounds.
use mathlib.Core.Path.{◌≡◌}
use Prim.Native.Nat.{ℕ, zero, suc, ◌*◌, ◌^◌, ◌≤◌, ◌<◌}
use native.Mathlib.Decide.{dec_le}
use native.Mathlib.Nat.{pow-le-pow_right}
use native.Mathlib.Nat.{mul-le-mul, le_of_lt}
use native.Mathlib.Omega.{arith}
use lib.Pow.{pow_mono}
use borrow.Author.Tests.{le-leb, lt-leb}
use Rattle.tree.specs.Book.{log_below, log2}

-- a product of bounded numbers
pub times_le : (a b x y : ℕ) → a ≤ x → b ≤ y → a * b ≤ x * y
times_le a b x y = mul-le-mul

pub times_lt : (a b x y : ℕ) → a < x → b ≤ y → a * b ≤ x * y
times_lt a b x y h l = mul-le-mul (le_of_lt h) l

pow_above : (f : ℕ) → f < 2 ^ f
pow_above zero = omega arith
pow_above (suc f) = omega (arith, pow_above f)

log_below_is : (n C f : ℕ) → 2 ^ f ≤ C → C < 2 ^ suc f → f ≤ n → log_below n C ≡ f
unfolding log_below
log_below_is zero C f a b h = omega arith
log_below_is (suc n) C f a b h =
    elim (dec_le (2 ^ suc n) C) [
      | yes l ↦ rw (le-leb (2 ^ suc n) C l, log_below)
          (elim (dec_le f n) [
            | yes k ↦ absurd (omega (arith, pow_mono {i = suc f} {j = suc n} (omega arith)))
            | no k ↦ omega arith
          ])
      | no l ↦ rw (lt-leb (2 ^ suc n) C (omega arith), log_below)
          (elim (dec_le f n) [
            | yes k ↦ log_below_is n C f a b k
            | no k ↦ let e : f ≡ suc n = omega arith in absurd (omega (arith, rw e at a))
          ])
    ]

pub log2_is : (C f : ℕ) → 2 ^ f ≤ C → C < 2 ^ suc f → log2 C ≡ f
log2_is C f a b = log_below_is C C f a b (omega (arith, pow_above f))

-- an exponent whose power is small is small
pub ilog2_low : (C f : ℕ) → 2 ^ f ≤ C → C < 2 ^ 5 → f ≤ 4
ilog2_low C f a b =
    elim (dec_le f 4) [
      | yes h ↦ h
      | no h ↦ absurd (omega (arith, pow-le-pow_right {n = 2} (omega arith) (let k : 5 ≤ f = omega arith in k)))
    ]
