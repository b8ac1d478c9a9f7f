-- Where a label stands in a trie: some key leads to it, and where it occurs once, all keys that lead to it share the bits that do. So in
-- the trie's array it fills one aligned run.
use mathlib.Core.Path.{◌≡◌, sym, ap, ◌∙◌}
use mathlib.Core.Logic.{inl, inr}
use Prim.Native.Nat.{ℕ, zero, suc, ◌+◌, ◌-◌, ◌*◌, ◌/◌, ◌%◌, ◌^◌, ◌≤◌, ◌<◌}
use native.Mathlib.Omega.{arith}
use native.Mathlib.Decide.{ℕ_discrete, dec_le}
use native.Mathlib.Nat.{sub-zero, suc-sub-suc, mod-lt, div-eq_of_lt}
use lib.ListN.{get_or}
use lib.Pow.{pow_pos, split, high}
use Rattle.lists.specs.Bits.{bit, bits}
use Rattle.lists.proofs.Cases.{bool_cases}
use Rattle.lists.proofs.Powers.{half}
use Rattle.lists.proofs.BitLaws.{bit_false, bit_true, index_own}
use Rattle.tree.specs.Trie.{Trie, leaf, fork, Key, height, leaf_at, depth}
use Rattle.tree.specs.Node.{Entry, flatten}
use Rattle.tree.proofs.TrieLaws.{depth_le_height}
use Rattle.tree.proofs.NodePromises.{at_key}
use Rattle.represent.specs.Labelled.{occ}
use Rattle.represent.proofs.LabelLaws.{ind_eq, ind_other, ind_at}

-- a key with the prefix q that leads to the label n
key_from : (t : Trie ℕ) (w q n : ℕ) → height t ≤ w → 1 ≤ occ n t → (k : ℕ) × (k / 2 ^ w ≡ q) × (leaf_at t (bits w k) ≡ n)
key_from (leaf x) w q n h o =
    elim (ℕ_discrete n x) [
      | yes e ↦ (q * 2 ^ w + 0, high q w (pow_pos w), sym e)
      | no e ↦ absurd (omega (arith, ind_other n x e))
    ]
key_from (fork l r) zero q n h o = absurd (omega arith)
key_from (fork l r) (suc w) q n h o =
    elim (dec_le 1 (occ n l)) [
      | yes p ↦
          let z = key_from l w (2 * q) n (omega arith) p in
          elim (bool_cases (bit w z.0)) [
            | inl e ↦ absurd (omega (arith, z.1, bit_true w z.0 e))
            | inr e ↦ (z.0, omega (arith, half w z.0, z.1), rw e z.2)
          ]
      | no p ↦
          let z = key_from r w (2 * q + 1) n (omega arith) (omega arith) in
          elim (bool_cases (bit w z.0)) [
            | inl e ↦ (z.0, omega (arith, half w z.0, z.1), rw e z.2)
            | inr e ↦ absurd (omega (arith, z.1, bit_false w z.0 e))
          ]
    ]

pub key_to : (t : Trie ℕ) (w n : ℕ) → height t ≤ w → 1 ≤ occ n t → (k : ℕ) × (k < 2 ^ w) × (leaf_at t (bits w k) ≡ n)
key_to t w n h o =
    let z = key_from t w 0 n h o in
    let e : z.0 / 2 ^ w * 2 ^ w ≡ 0 * 2 ^ w = ap (λ q. q * 2 ^ w) z.1 in
    (z.0, omega (arith, split z.0 w, mod-lt z.0 (pow_pos w)), z.2)

-- two keys with the prefix q that lead to one label
shared : (t : Trie ℕ) (w q i j x : ℕ) → i / 2 ^ w ≡ q → j / 2 ^ w ≡ q → height t ≤ w → occ x t ≤ 1
    → x ≡ leaf_at t (bits w i) → x ≡ leaf_at t (bits w j)
    → j / 2 ^ (w - depth t (bits w i)) ≡ i / 2 ^ (w - depth t (bits w i))
shared (leaf y) w q i j x a b h o e f = rw sub-zero (b ∙ sym a)
shared (fork l r) zero q i j x a b h o e f = absurd (omega arith)
shared (fork l r) (suc w) q i j x a b h o e f =
    elim (bool_cases (bit w i)) [
      | inl c ↦
          elim (bool_cases (bit w j)) [
            | inl d ↦
                rw (c, suc-sub-suc)
                (shared r w (2 * q + 1) i j x (omega (arith, bit_true w i c)) (omega (arith, bit_true w j d)) (omega arith) (omega arith)
                (rw c at e) (rw d at f))
            | inr d ↦ absurd (twice (bits w j) (bits w i) (rw d at f) (rw c at e))
          ]
      | inr c ↦
          elim (bool_cases (bit w j)) [
            | inl d ↦ absurd (twice (bits w i) (bits w j) (rw c at e) (rw d at f))
            | inr d ↦
                rw (c, suc-sub-suc)
                (shared l w (2 * q) i j x (omega (arith, bit_false w i c)) (omega (arith, bit_false w j d)) (omega arith) (omega arith)
                (rw c at e) (rw d at f))
          ]
    ]
  where
    twice : (k k' : Key) → x ≡ leaf_at l k → x ≡ leaf_at r k' → ⊥
    twice k k' c d = omega (arith, ind_at x l k, ind_eq x (leaf_at l k) c, ind_at x r k', ind_eq x (leaf_at r k') d)

-- numbers with one quotient by 2^m stand in one aligned run
in_run : (m i j : ℕ) → j / 2 ^ m ≡ i / 2 ^ m → (i - i % 2 ^ m ≤ j) × (j < i - i % 2 ^ m + 2 ^ m)
in_run m i j e =
    let e' : j / 2 ^ m * 2 ^ m ≡ i / 2 ^ m * 2 ^ m = ap (λ x. x * 2 ^ m) e in
    (omega (arith, split i m, split j m), omega (arith, split i m, split j m, mod-lt j (pow_pos m)))

module _ (H : ℕ) (t : Trie ℕ) (fits : height t ≤ H) where
  abbrev entry_at : ℕ → Entry ℕ
  entry_at i = get_or (flatten H t 0) i (0, 0)

  pub entry_is : (i : ℕ) → i < 2 ^ H → entry_at i ≡ (depth t (bits H i), leaf_at t (bits H i))
  entry_is i p = rw (index_own H i p) at (at_key H t (bits H i) (0, 0) (omega (arith, depth_le_height t (bits H i))))

  -- entries with one pointer, a label that occurs once, stand in one aligned run
  pub one_run : (i j : ℕ) → i < 2 ^ H → j < 2 ^ H → occ (entry_at i).1 t ≤ 1 → (entry_at j).1 ≡ (entry_at i).1
      → (i - i % 2 ^ (H - (entry_at i).0) ≤ j) × (j < i - i % 2 ^ (H - (entry_at i).0) + 2 ^ (H - (entry_at i).0))
  one_run i j p q o e =
      in_run (H - (entry_at i).0) i j
      (ap (λ x. j / 2 ^ (H - x.0)) (entry_is i p)
      ∙ shared t H 0 i j (entry_at i).1 (div-eq_of_lt p) (div-eq_of_lt q) fits o (ap (λ x. x.1) (entry_is i p))
      (sym e ∙ ap (λ x. x.1) (entry_is j q))
      ∙ ap (λ x. i / 2 ^ (H - x.0)) (sym (entry_is i p)))
