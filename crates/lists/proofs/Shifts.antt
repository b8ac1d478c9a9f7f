-- Shifts and masks of machine words as powers of two.
use mathlib.Core.Path.{◌≡◌, ap, ◌∙◌, subst}
use Prim.Native.Nat.{ℕ, ◌+◌, ◌-◌, ◌*◌, ◌%◌, ◌^◌, ◌≤◌, ◌<◌}
use native.Mathlib.Nat.{one-mul, mod-lt, lt_of_lt_of_le, mul-le-mul_right, add-mul}
use native.Mathlib.Omega.{arith}
use lib.Dec.{lit<}
use lib.Pow.{shl_exact, pow_pos, pow_mono}
use lib.Bits.{bit_and, and_mask}

-- one shifted by k, in a word of w bits
pub shl_one : (k w : ℕ) → k < w → (1 * 2 ^ k) % 2 ^ w ≡ 2 ^ k
shl_one k w h = shl_exact 1 k w (lit< tt) (omega arith) ∙ one-mul (2 ^ k)

-- the low d bits of n, by a mask
pub low_bits : (n d w : ℕ) → d < w → bit_and n ((1 * 2 ^ d) % 2 ^ w - 1) ≡ n % 2 ^ d
low_bits n d w h = ap (λ (x : ℕ). bit_and n (x - 1)) (shl_one d w h) ∙ and_mask n d

pub mod_below : (n d e : ℕ) → d ≤ e → n % 2 ^ d < 2 ^ e
mod_below n d e h = lt_of_lt_of_le (mod-lt n (pow_pos d)) (pow_mono h)

pub pow_within : (n k m : ℕ) → n ≡ 2 ^ k → k ≤ m → (1 ≤ n) × (n ≤ 2 ^ m)
pow_within n k m e h = rw e (omega (arith, pow_pos k), pow_mono h)

-- k steps end before n steps do
-- n of C parts of w each, and the others
pub shares : (w n C : ℕ) → n ≤ C → w * n + w * (C - n) ≡ w * C
shares w n C h = let e : n + (C - n) ≡ C = omega arith in omega (arith, ap (λ (m : ℕ). w * m) e)

pub stride : (k n step : ℕ) → k < n → k * step + step ≤ n * step
stride k n step h =
    let part : (k + 1) * step ≤ n * step = mul-le-mul_right step (omega arith) in
    subst (λ (x : ℕ). x ≤ n * step) (add-mul k 1 step ∙ ap (λ (x : ℕ). k * step + x) (one-mul step)) part
