-- Powers of two and division by them.
use mathlib.Core.Path.{◌≡◌, sym, ap, ◌∙◌}
use Prim.Native.Nat.{ℕ, suc, ◌+◌, ◌-◌, ◌*◌, ◌/◌, ◌%◌, ◌^◌, ◌≤◌, ◌<◌}
use native.Mathlib.Nat.{pow-suc, div-div-eq-div-mul, add-sub_of_le, sub-add_cancel, mul-add-div_right}
use native.Mathlib.Omega.{arith}
use lib.Pow.{pow-add, pow_pos, split, shr_lt}
use lib.Arith.{digits_lt}

-- 2^h entries of 2^(H−h) each
pub pow_split : {h H : ℕ} → h ≤ H → 2 ^ h * 2 ^ (H - h) ≡ 2 ^ H
pow_split {h} {H} p = sym (pow-add 2 h (H - h)) ∙ ap (λ (n : ℕ). 2 ^ n) (add-sub_of_le p)

pub pow_join : {m H : ℕ} → m ≤ H → 2 ^ (H - m) * 2 ^ m ≡ 2 ^ H
pow_join {m} {H} p = sym (pow-add 2 (H - m) m) ∙ ap (λ (n : ℕ). 2 ^ n) (sub-add_cancel p)

-- one bit more to drop
pub half : (w k : ℕ) → k / 2 ^ suc w ≡ k / 2 ^ w / 2
half w k = rw (pow-suc 2 w) (sym (div-div-eq-div-mul k (2 ^ w) 2))

pub shr_add : (h k i : ℕ) → (2 ^ (h + k) + i) / 2 ^ k ≡ 2 ^ h + i / 2 ^ k
shr_add h k i = rw pow-add (mul-add-div_right (pow_pos k) (2 ^ h) i)

pub shr_add_le : (m H i : ℕ) → m ≤ H → (2 ^ H + i) / 2 ^ m ≡ 2 ^ (H - m) + i / 2 ^ m
shr_add_le m H i p = ap (λ n. (2 ^ n + i) / 2 ^ m) (sym (sub-add_cancel p)) ∙ shr_add (H - m) m i

-- an index of the aligned run of i, of 2^m, is below 2^H
pub run_lt : (H m i j : ℕ) → m ≤ H → i < 2 ^ H → j < 2 ^ m → i - i % 2 ^ m + j < 2 ^ H
run_lt H m i j p q h =
    let q' : i < 2 ^ (H - m + m) = rw (sub-add_cancel p) q in
    omega (arith, pow_join p, split i m, digits_lt (shr_lt (H - m) m q') h)
