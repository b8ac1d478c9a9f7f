-- Levels stay within L: at most 2^w keys share all but w bits, so a stretch with more than C records has more than f bits left, and every
-- level takes θ from the height.
use mathlib.Core.Bool.{true, false}
use mathlib.Core.List.{List}
use Prim.Native.Nat.{ℕ, zero, suc, ◌+◌, ◌-◌, ◌*◌, ◌^◌, ◌≤◌, ◌<◌}
use native.Mathlib.Nat.{suc-mul, le-div_iff_mul-le}
use native.Mathlib.Decide.{dec_le, dec_lt}
use native.Mathlib.Omega.{arith}
use lib.ListN.{length}
use lib.Pow.{pow_mono}
use borrow.Author.Tests.{le-leb, lt-leb}
use Rattle.lists.specs.Keyed.{Sorted, Prefix}
use Rattle.tree.specs.Trie.{leaf, fork, Shape, shape, height}
use Rattle.tree.specs.Tower.{cut, levels_above, tower, levels}
use Rattle.tree.specs.Build.{side, build}
use Rattle.tree.specs.Book.{log_below, log2, level_bound}
use Rattle.tree.proofs.TrieLaws.{height_shape}
use Rattle.tree.proofs.TowerLaws.{cut_le, height_cut, above_tip}
use Rattle.tree.proofs.BuildLaws.{length_prefix, sorted_side, prefix_low, prefix_high, build_le, build_gt}

-- 2^f ≤ C for f = log2 C
pub pow_log_below : (n C : ℕ) → 1 ≤ C → 2 ^ log_below n C ≤ C
unfolding log_below
pow_log_below zero C h = omega arith
pow_log_below (suc n) C h =
    elim (dec_le (2 ^ suc n) C) [
      | yes a ↦ rw (le-leb (2 ^ suc n) C a, log_below) a
      | no a ↦ rw (lt-leb (2 ^ suc n) C (omega arith), log_below) (pow_log_below n C h)
    ]

module _ {R : Type 0} (key : R → ℕ) (C : ℕ) where
  -- more than C records have more than f bits left
  pub bits_left : 1 ≤ C → (w q : ℕ) (rs : List R) → Sorted key rs → Prefix key w q rs → C < length rs → log2 C < w
  bits_left c w q rs s p h =
      elim (dec_lt (log2 C) w) [
        | yes l ↦ l
        | no l ↦ absurd (omega (arith, length_prefix key w q rs s p, pow_log_below C C c, pow_mono {i = w} {j = log2 C} (omega arith)))
      ]

  pub height_bound : 1 ≤ C → (w q : ℕ) (rs : List R) → Sorted key rs → Prefix key w q rs → height (build key C w rs) ≤ w - log2 C
  unfolding build
  height_bound c zero q rs s p = omega arith
  height_bound c (suc w) q rs s p =
      elim (dec_le (length rs) C) [
        | yes h ↦ rw (build_le key C (suc w) rs h) (omega arith)
        | no h ↦ rw (build_gt key C w rs (omega arith))
            (omega (
              arith,
              bits_left c (suc w) q rs s p (omega arith),
              height_bound c w (2 * q) (side key false w rs) (sorted_side key false w rs s) (prefix_low key w q rs p),
              height_bound c w (2 * q + 1) (side key true w rs) (sorted_side key true w rs s) (prefix_high key w q rs p),
            ))
      ]

-- each level above b takes θ from its height
above_length : (n θ : ℕ) (b : Shape) → 1 ≤ θ → length (levels_above n θ b) * θ < height b + θ
above_length zero θ b h = omega arith
above_length (suc n) θ (leaf x) h = omega arith
above_length (suc n) θ (fork l r) h =
    elim (dec_le (height (fork l r)) θ) [
      | yes a ↦ rw (cut_le θ (fork l r) a, above_tip n θ) (omega arith)
      | no a ↦ rw (suc-mul (length (levels_above n θ (cut θ (fork l r)))) θ)
          (omega (arith, above_length n θ (cut θ (fork l r)) h, height_cut θ (fork l r)))
    ]

tower_length : (θ n : ℕ) (t : Shape) → 1 ≤ θ → 1 ≤ n → height t ≤ n → levels θ t * θ ≤ n + (θ - 1)
unfolding tower
tower_length θ n t h p a =
    rw (suc-mul (length (levels_above (height t) θ (cut θ t))) θ)
    (elim (dec_le (height t) θ) [
      | yes b ↦ rw (cut_le θ t b, above_tip (height t) θ) (omega arith)
      | no b ↦ omega (arith, above_length (height t) θ (cut θ t) h, height_cut θ t)
    ])

pub levels_bound : {R : Type 0} (key : R → ℕ) (W θ C q : ℕ) (S : List R) → 1 ≤ θ → 1 ≤ C → log2 C < W → Sorted key S → Prefix key W q S
    → levels θ (shape (build key C W S)) ≤ level_bound W θ C
unfolding level_bound
levels_bound key W θ C q S h c l s p =
    (le-div_iff_mul-le h).1
    (tower_length θ (W - log2 C) (shape (build key C W S)) h (omega arith)
    (omega (arith, height_shape (build key C W S), height_bound key C c W q S s p)))
