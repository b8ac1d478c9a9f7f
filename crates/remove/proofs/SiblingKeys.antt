-- The sibling's key: the bits above the last one of the prefix stay, that one is the other way. So what a trie has at the sibling's key is
-- what the sibling subtrie has at the bits after; a sibling that is one leaf is at the prefix's own length, and any other is deeper.
--   other e k     == the sibling of the key k at bit e, zeros after
use mathlib.Core.Path.{◌≡◌, refl, sym, ap, ◌∙◌, subst}
use mathlib.Core.Bool.{true, false, not}
use mathlib.Core.List.{[], ◌∷◌}
use mathlib.Core.Logic.{◌⊎◌, inl, inr}
use Prim.Native.Nat.{ℕ, zero, suc, ◌+◌, ◌-◌, ◌*◌, ◌/◌, ◌%◌, ◌^◌, ◌≤◌, ◌<◌}
use native.Mathlib.Nat.{div-div-eq-div-mul, div-eq_of_lt}
use native.Mathlib.Decide.{dec_lt}
use native.Mathlib.Omega.{arith}
use lib.Dec.{eqb}
use lib.Pow.{pow-add, shl-shr, shr_mono}
use borrow.Author.Tests.{eq-eqb, ne_eqb, eqb-true, eqb-false}
use Rattle.lists.specs.Bits.{bit, bits}
use Rattle.lists.proofs.Cases.{bool_cases}
use Rattle.lists.proofs.Powers.{half}
use Rattle.tree.specs.Trie.{Trie, leaf, fork, Key, leaf_at, depth}
use Rattle.joins.specs.Joins.{beside}
use Rattle.remove.specs.Remove.{on_left, sibling_key}

unfoldable pub other : ℕ → ℕ → ℕ
other e k = elim (eqb (k / 2 ^ e % 2) 1) [ true ↦ (k / 2 ^ e - 1) * 2 ^ e | false ↦ (k / 2 ^ e + 1) * 2 ^ e ]

pub sibling_other : (W k m : ℕ) → sibling_key W k m ≡ other (W - m) k
unfolding sibling_key on_left other
sibling_other W k m = refl

-- the number above bit e
pub other_shift : (e k : ℕ)
    → ((other e k / 2 ^ e ≡ k / 2 ^ e - 1) × (k / 2 ^ e % 2 ≡ 1)) ⊎ ((other e k / 2 ^ e ≡ k / 2 ^ e + 1) × (k / 2 ^ e % 2 ≡ 0))
unfolding other
other_shift e k =
    elim (bool_cases (eqb (k / 2 ^ e % 2) 1)) [
      | inl a ↦ inl (ap (λ x. x / 2 ^ e) (on a) ∙ shl-shr (k / 2 ^ e - 1) e, eqb-true (k / 2 ^ e % 2) 1 a)
      | inr a ↦ inr (ap (λ x. x / 2 ^ e) (off a) ∙ shl-shr (k / 2 ^ e + 1) e, omega (arith, eqb-false (k / 2 ^ e % 2) 1 a))
    ]
  where
    on : eqb (k / 2 ^ e % 2) 1 ≡ true → other e k ≡ (k / 2 ^ e - 1) * 2 ^ e
    on a = rw (a, other)

    off : eqb (k / 2 ^ e % 2) 1 ≡ false → other e k ≡ (k / 2 ^ e + 1) * 2 ^ e
    off a = rw (a, other)

other_above : (e k : ℕ) → other e k / 2 ^ suc e ≡ k / 2 ^ suc e
other_above e k =
    elim (other_shift e k) [
      | inl a ↦ omega (arith, half e (other e k), half e k, a.0, a.1)
      | inr a ↦ omega (arith, half e (other e k), half e k, a.0, a.1)
    ]

other_bit : (e k : ℕ) → bit e (other e k) ≡ not (bit e k)
unfolding bit
other_bit e k =
    elim (other_shift e k) [
      | inl a ↦
          rw (eq-eqb (k / 2 ^ e % 2) 1 a.1, ne_eqb (other e k / 2 ^ e % 2) 1 (λ q. omega (arith, q, a.0, a.1)))
      | inr a ↦
          rw (ne_eqb (k / 2 ^ e % 2) 1 (λ q. omega (arith, q, a.1)), eq-eqb (other e k / 2 ^ e % 2) 1 (omega (arith, a.0, a.1)))
    ]

-- numbers alike above one bit are alike above every higher one
div_up : (a b e i : ℕ) → a / 2 ^ e ≡ b / 2 ^ e → a / 2 ^ (e + i) ≡ b / 2 ^ (e + i)
div_up a b e i q =
    let t : (x : ℕ) → x / 2 ^ (e + i) ≡ x / 2 ^ e / 2 ^ i =
    λ x. ap (λ n. x / n) (pow-add 2 e i) ∙ sym (div-div-eq-div-mul x (2 ^ e) (2 ^ i)) in
    t a ∙ ap (λ n. n / 2 ^ i) q ∙ sym (t b)

pub other_div : (e k j : ℕ) → e < j → other e k / 2 ^ j ≡ k / 2 ^ j
other_div e k j h =
    let s : suc e + (j - suc e) ≡ j = omega arith in
    subst (λ n. other e k / 2 ^ n ≡ k / 2 ^ n) s (div_up (other e k) k (suc e) (j - suc e) (other_above e k))

other_high : (e k j : ℕ) → e < j → bit j (other e k) ≡ bit j k
unfolding bit
other_high e k j h = ap (λ x. eqb (x % 2) 1) (other_div e k j h)

pub other_low : (W e k : ℕ) → e < W → k < 2 ^ W → other e k < 2 ^ W
other_low W e k h l =
    elim (dec_lt (other e k) (2 ^ W)) [
      | yes p ↦ p
      | no p ↦
          let g : 1 * 2 ^ W ≤ other e k = omega arith in
          absurd (omega (arith, shr_mono W g, shl-shr 1 W, other_div e k W h, div-eq_of_lt l))
    ]

module _ {A : Type 0} where
  -- at the sibling's key, e bits after it
  abbrev pub Beside : ℕ → ℕ → ℕ → Trie A → ℕ → Type 0
  Beside n w e t k =
      (depth t (bits w (other e k)) ≡ n + depth (beside n t (bits w k)) (bits e (other e k)))
      × (leaf_at t (bits w (other e k)) ≡ leaf_at (beside n t (bits w k)) (bits e (other e k)))

  beside_one : (w : ℕ) (l r : Trie A) (k : ℕ) → Beside 1 (suc w) w (fork l r) k
  beside_one w l r k =
      elim (bool_cases (bit w k)) [
        | inl a ↦ rw (other_bit w k, a) (omega arith, refl)
        | inr a ↦ rw (other_bit w k, a) (omega arith, refl)
      ]

  pub beside_is : (n w e : ℕ) (t : Trie A) (k : ℕ) → n + e ≡ w → 1 ≤ n → n ≤ depth t (bits w k) → Beside n w e t k
  beside_is zero w e t k q p h = absurd (omega arith)
  beside_is (suc n) zero e t k q p h = absurd (omega arith)
  beside_is (suc zero) (suc w) e (leaf x) k q p h = absurd (omega arith)
  beside_is (suc (suc n)) (suc w) e (leaf x) k q p h = absurd (omega arith)
  beside_is (suc zero) (suc w) e (fork l r) k q p h =
      let s : w ≡ e = omega arith in
      subst (λ x. Beside 1 (suc w) x (fork l r) k) s (beside_one w l r k)
  beside_is (suc (suc n)) (suc w) e (fork l r) k q p h =
      let above : bit w (other e k) ≡ bit w k = other_high e k w (omega arith) in
      elim (bool_cases (bit w k)) [
        | inl a ↦
            let i = beside_is (suc n) w e r k (omega arith) (omega arith) (omega (arith, rw a at h)) in
            rw (above, a) (omega (arith, i.0), i.1)
        | inr a ↦
            let i = beside_is (suc n) w e l k (omega arith) (omega arith) (omega (arith, rw a at h)) in
            rw (above, a) (omega (arith, i.0), i.1)
      ]

  -- one leaf or more
  pub leaf_or_deeper : (t : Trie A) (k : Key) → ((x : A) × (t ≡ leaf x)) ⊎ (1 ≤ depth t k)
  leaf_or_deeper (leaf x) k = inl (x, refl)
  leaf_or_deeper (fork l r) [] = inr (omega arith)
  leaf_or_deeper (fork l r) (false ∷ k) = inr (omega arith)
  leaf_or_deeper (fork l r) (true ∷ k) = inr (omega arith)
