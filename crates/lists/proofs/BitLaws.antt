-- Bits against division: a key's bits say what it is, and its first bits, high bit first, spell its quotient by a power of two.
use mathlib.Core.Path.{◌≡◌, refl, sym, ap, ◌∙◌}
use mathlib.Core.Bool.{Bool, true, false}
use mathlib.Core.List.{List, [], ◌∷◌}
use mathlib.Core.Logic.{inl, inr}
use Prim.Native.Nat.{ℕ, zero, suc, ◌+◌, ◌-◌, ◌*◌, ◌/◌, ◌%◌, ◌^◌, ◌≤◌, ◌<◌}
use native.Mathlib.Nat.{suc-add, zero-add, suc-sub-suc, sub-zero, sub_self, pow-zero, mod-lt, mod-eq_of_lt, mul-add-div_right, mul_assoc}
use native.Mathlib.Nat.{div-one, div-eq_of_lt, add-sub_of_le}
use native.Mathlib.Numerals.{one-add}
use native.Mathlib.Omega.{arith}
use lib.ListN.{length, drop}
use lib.Seq.{drop-nil}
use lib.Pow.{pow_pos, pow-add, mod-pow-add, low}
use borrow.Author.Tests.{eqb-true, eqb-false}
use Rattle.lists.specs.Bits.{bit, bits, index}
use Rattle.lists.proofs.Cases.{bool_cases}
use Rattle.lists.proofs.Powers.{half, pow_split}

pub bit_false : (w k : ℕ) → bit w k ≡ false → k / 2 ^ w ≡ 2 * (k / 2 ^ suc w)
unfolding bit
bit_false w k e = omega (arith, half w k, eqb-false (k / 2 ^ w % 2) 1 e)

pub bit_true : (w k : ℕ) → bit w k ≡ true → k / 2 ^ w ≡ 2 * (k / 2 ^ suc w) + 1
unfolding bit
bit_true w k e = omega (arith, half w k, eqb-true (k / 2 ^ w % 2) 1 e)

pub index_lt : (n : ℕ) (bs : List Bool) → index n bs < 2 ^ n
index_lt zero bs = omega arith
index_lt (suc n) [] = omega (arith, index_lt n [])
index_lt (suc n) (false ∷ bs) = omega (arith, index_lt n bs)
index_lt (suc n) (true ∷ bs) = omega (arith, index_lt n bs)

pub index_add : (h k : ℕ) (bs : List Bool) → index (h + k) bs ≡ index h bs * 2 ^ k + index k (drop h bs)
index_add zero k bs = rw zero-add (omega arith)
index_add (suc h) k [] = rw suc-add (rw drop-nil at (index_add h k []))
index_add (suc h) k (false ∷ bs) = rw suc-add (index_add h k bs)
index_add (suc h) k (true ∷ bs) = rw suc-add (omega (arith, index_add h k bs, pow-add 2 h k))

pub index_split : {h H : ℕ} (bs : List Bool) → h ≤ H → index H bs ≡ index h bs * 2 ^ (H - h) + index (H - h) (drop h bs)
index_split {h} {H} bs p = ap (λ (n : ℕ). index n bs) (sym (add-sub_of_le p)) ∙ index_add h (H - h) bs

-- the start of the aligned run that an index stands in
pub index_align : {h H : ℕ} (bs : List Bool) → h ≤ H → index H bs - index H bs % 2 ^ (H - h) ≡ index h bs * 2 ^ (H - h)
index_align {h} {H} bs p =
    let e = index_split bs p in
    let m : index H bs % 2 ^ (H - h) ≡ index (H - h) (drop h bs) = rw e (low (index h bs) (H - h) (index_lt (H - h) (drop h bs))) in
    omega arith

index_bit : (w H k : ℕ) (bs : List Bool) → index (suc H) (bit w k ∷ bs) ≡ k / 2 ^ w % 2 * 2 ^ H + index H bs
unfolding bit
index_bit w H k bs =
    elim (bool_cases (bit w k)) [
      | inl e ↦ rw (e, eqb-true (k / 2 ^ w % 2) 1 e) (omega arith)
      | inr e ↦
          let z : k / 2 ^ w % 2 ≡ 0 = omega (arith, eqb-false (k / 2 ^ w % 2) 1 e) in
          rw (e, z) (omega arith)
    ]

-- the first H of the low W bits of k
pub index_bits : (W H k : ℕ) → H ≤ W → index H (bits W k) ≡ k % 2 ^ W / 2 ^ (W - H)
index_bits W zero k h = sym (div-eq_of_lt (rw sub-zero (mod-lt k (pow_pos W))))
index_bits zero (suc H) k h = absurd (omega arith)
index_bits (suc W) (suc H) k h =
    let p : H ≤ W = omega arith in
    rw suc-sub-suc
    (index_bit W H k (bits W k)
    ∙ ap (λ n. k / 2 ^ W % 2 * 2 ^ H + n) (index_bits W H k p)
    ∙ sym (mul-add-div_right (pow_pos (W - H)) (k / 2 ^ W % 2 * 2 ^ H) (k % 2 ^ W))
    ∙ ap (λ n. (n + k % 2 ^ W) / 2 ^ (W - H)) (mul_assoc (k / 2 ^ W % 2) (2 ^ H) (2 ^ (W - H)) ∙ ap (λ n. k / 2 ^ W % 2 * n) (pow_split p))
    ∙ ap (λ n. n / 2 ^ (W - H)) (sym (mod-pow-add k 1 W) ∙ ap (λ n. k % 2 ^ n) (one-add W)))

-- of a number of H bits
pub index_own : (H i : ℕ) → i < 2 ^ H → index H (bits H i) ≡ i
index_own H i h = index_bits H H i (omega arith) ∙ simp (sub_self, pow-zero, div-one) (mod-eq_of_lt h)

-- of a number of W bits: a shift
pub index_shr : (W H k : ℕ) → H ≤ W → k < 2 ^ W → index H (bits W k) ≡ k / 2 ^ (W - H)
index_shr W H k p h = index_bits W H k p ∙ ap (λ n. n / 2 ^ (W - H)) (mod-eq_of_lt h)

pub length_bits : (w k : ℕ) → length (bits w k) ≡ w
length_bits zero k = refl
length_bits (suc w) k = ap suc (length_bits w k)

-- the bits after the first n
pub drop_bits : (W n k : ℕ) → n ≤ W → drop n (bits W k) ≡ bits (W - n) k
drop_bits W zero k h = ap (λ m. bits m k) (sym (sub-zero W))
drop_bits zero (suc n) k h = absurd (omega arith)
drop_bits (suc W) (suc n) k h = rw suc-sub-suc (drop_bits W n k (omega arith))
