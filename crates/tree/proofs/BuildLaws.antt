-- The trie of a list of records: its height, what stands at a key, and how it grows with a record. An insertion changes the leaf at its key
-- only, since the other side of every fork keeps its records.
use mathlib.Core.Path.{◌≡◌, refl, sym, ap, ◌∙◌}
use mathlib.Core.Bool.{Bool, true, false, not}
use mathlib.Core.List.{List, [], ◌∷◌}
use mathlib.Core.Logic.{◌⊎◌, inl, inr}
use Prim.Native.Nat.{ℕ, zero, suc, ◌+◌, ◌-◌, ◌*◌, ◌/◌, ◌^◌, ◌≤◌, ◌<◌}
use native.Mathlib.Nat.{sub-zero, suc-sub-suc, div-one}
use native.Mathlib.Decide.{dec_le}
use native.Mathlib.Omega.{arith}
use lib.ListN.{length}
use lib.Pow.{shr_mono}
use borrow.Author.Tests.{le-leb, lt-leb}
use Rattle.lists.specs.Bits.{bit, bits}
use Rattle.lists.specs.Lists.{All}
use Rattle.lists.specs.Keyed.{Sorted, Prefix, insert}
use Rattle.lists.proofs.Cases.{bool_cases}
use Rattle.lists.proofs.BitLaws.{bit_false, bit_true}
use Rattle.lists.proofs.ListLaws.{all_filter, all_filter_to, all_map, all_both, pairwise_filter, filter_true, filter_false, filter_not}
use Rattle.lists.proofs.AppendLaws.{filter_every, filter_none}
use Rattle.lists.proofs.KeyedLaws.{length_insert, filter_insert_in, filter_insert_out}
use Rattle.tree.specs.Trie.{Trie, leaf, fork, height, leaf_at, depth}
use Rattle.tree.specs.Build.{same, side, build, target}

pub same_self : (b : Bool) → same b b ≡ true
same_self true = refl
same_self false = refl

pub same_not : (b : Bool) → same b (not b) ≡ false
same_not true = refl
same_not false = refl

pub same_true : (b c : Bool) → same b c ≡ true → c ≡ b
same_true true c e = e
same_true false true e = sym e
same_true false false e = refl

-- of two keys alike above bit w, the larger one has the bit if the smaller has it
bit_rises : (w x y : ℕ) → x / 2 ^ suc w ≡ y / 2 ^ suc w → x < y → bit w x ≡ true → bit w y ≡ true
bit_rises w x y p l e =
    elim (bool_cases (bit w y)) [
      | inl d ↦ d
      | inr d ↦ let g : x ≤ y = omega arith in absurd (omega (arith, shr_mono w g, bit_true w x e, bit_false w y d))
    ]

module _ {R : Type 0} (key : R → ℕ) where
  -- the two sides of a list, at bit w
  pub length_sides : (w : ℕ) (rs : List R) → length (side key false w rs) + length (side key true w rs) ≡ length rs
  length_sides w rs = filter_not (λ r. bit w (key r)) rs

  pub sorted_side : (b : Bool) (w : ℕ) (rs : List R) → Sorted key rs → Sorted key (side key b w rs)
  sorted_side b w rs = pairwise_filter (λ x y. key x < key y) (λ r. same b (bit w (key r))) rs

  pub all_side : (P : R → Type 0) (b : Bool) (w : ℕ) (rs : List R) → All P rs → All P (side key b w rs)
  all_side P b w rs = all_filter (λ r. same b (bit w (key r))) P rs

  pub side_insert : (b : Bool) (w : ℕ) (r : R) (rs : List R) → bit w (key r) ≡ b → Sorted key rs
      → side key b w (insert key r rs) ≡ insert key r (side key b w rs)
  side_insert b w r rs e s = filter_insert_in key (λ x. same b (bit w (key x))) r rs (ap (same b) e ∙ same_self b) s

  pub side_insert_off : (b : Bool) (w : ℕ) (r : R) (rs : List R) → bit w (key r) ≡ not b → side key b w (insert key r rs) ≡ side key b w rs
  side_insert_off b w r rs e = filter_insert_out key (λ x. same b (bit w (key x))) r rs (ap (same b) e ∙ same_not b)

  -- the prefix of a side
  pub prefix_low : (w q : ℕ) (rs : List R) → Prefix key (suc w) q rs → Prefix key w (2 * q) (side key false w rs)
  prefix_low w q rs =
      all_filter_to (λ r. same false (bit w (key r))) (λ r. key r / 2 ^ suc w ≡ q) (λ r. key r / 2 ^ w ≡ 2 * q) rs
      (λ r e p. omega (arith, bit_false w (key r) (same_true false (bit w (key r)) e)))

  pub prefix_high : (w q : ℕ) (rs : List R) → Prefix key (suc w) q rs → Prefix key w (2 * q + 1) (side key true w rs)
  prefix_high w q rs =
      all_filter_to (λ r. same true (bit w (key r))) (λ r. key r / 2 ^ suc w ≡ q) (λ r. key r / 2 ^ w ≡ 2 * q + 1) rs
      (λ r e p. omega (arith, bit_true w (key r) e))

  pub prefix_side : (w k : ℕ) (rs : List R) → Prefix key (suc w) (k / 2 ^ suc w) rs → Prefix key w (k / 2 ^ w) (side key (bit w k) w rs)
  prefix_side w k rs p =
      elim (bool_cases (bit w k)) [
        | inl e ↦ rw (e, bit_true w k e) (prefix_high w (k / 2 ^ suc w) rs p)
        | inr e ↦ rw (e, bit_false w k e) (prefix_low w (k / 2 ^ suc w) rs p)
      ]

  -- a first record without bit w is the first of the low side
  pub sides_low : (w : ℕ) (x : R) (xs : List R) → bit w (key x) ≡ false
      → (side key false w (x ∷ xs) ≡ x ∷ side key false w xs) × (side key true w (x ∷ xs) ≡ side key true w xs)
  sides_low w x xs e = (
    filter_true (λ r. same false (bit w (key r))) x xs (ap (same false) e),
    filter_false (λ r. same true (bit w (key r))) x xs e,
  )

  -- behind a record with bit w, all have it: keys ascend, and they are alike above the bit
  pub sides_high : (w q : ℕ) (x : R) (xs : List R) → Sorted key (x ∷ xs) → Prefix key (suc w) q (x ∷ xs) → bit w (key x) ≡ true
      → (side key false w (x ∷ xs) ≡ []) × (side key true w (x ∷ xs) ≡ x ∷ xs)
  sides_high w q x xs s p e =
      let low : R → Bool = λ r. same false (bit w (key r)) in
      let high : R → Bool = λ r. same true (bit w (key r)) in
      let a : All (λ r. high r ≡ true) (x ∷ xs) = (
        e,
        all_both (λ y. key x < key y) (λ y. key y / 2 ^ suc w ≡ q) (λ y. bit w (key y) ≡ true) xs
            (λ y l o. bit_rises w (key x) (key y) (p.0 ∙ sym o) l e) s.0 p.1,
      ) in (
        filter_none low (x ∷ xs) (all_map (λ r. high r ≡ true) (λ r. low r ≡ false) (x ∷ xs) (λ r o. ap (same false) o) a),
        filter_every high (x ∷ xs) a,
      )

  -- no two keys with all bits in common
  one_left : (q : ℕ) (rs : List R) → Sorted key rs → Prefix key zero q rs → length rs ≤ 1
  one_left q [] s p = omega arith
  one_left q (x ∷ []) s p = omega arith
  one_left q (x ∷ y ∷ ys) s p = absurd (omega (arith, div-one (key x), div-one (key y), s.0.0, p.0, p.1.0))

  -- at most 2^w keys share all but their low w bits
  pub length_prefix : (w q : ℕ) (rs : List R) → Sorted key rs → Prefix key w q rs → length rs ≤ 2 ^ w
  length_prefix zero q rs s p = omega (arith, one_left q rs s p)
  length_prefix (suc w) q rs s p =
      omega (
        arith,
        length_sides w rs,
        length_prefix w (2 * q) (side key false w rs) (sorted_side false w rs s) (prefix_low w q rs p),
        length_prefix w (2 * q + 1) (side key true w rs) (sorted_side true w rs s) (prefix_high w q rs p),
      )

  module _ (C : ℕ) where
    pub build_le : (w : ℕ) (rs : List R) → length rs ≤ C → build key C w rs ≡ leaf rs
    unfolding build
    build_le zero rs h = refl
    build_le (suc w) rs h = rw (le-leb (length rs) C h, build)

    pub build_gt : (w : ℕ) (rs : List R) → C < length rs
        → build key C (suc w) rs ≡ fork (build key C w (side key false w rs)) (build key C w (side key true w rs))
    unfolding build
    build_gt w rs h = rw (lt-leb (length rs) C h, build)

    pub height_build : (w : ℕ) (rs : List R) → height (build key C w rs) ≤ w
    unfolding build
    height_build zero rs = omega arith
    height_build (suc w) rs =
        elim (dec_le (length rs) C) [
          | yes h ↦ rw (build_le (suc w) rs h) (omega arith)
          | no h ↦
              rw (build_gt w rs (omega arith)) (omega (arith, height_build w (side key false w rs), height_build w (side key true w rs)))
        ]

    -- the leaf at a key has what the sides at the key's bits keep
    pub leaf_keeps : (Q : ℕ → List R → Type 0) (k : ℕ) → ((w : ℕ) (rs : List R) → Q (suc w) rs → Q w (side key (bit w k) w rs))
        → (w : ℕ) (rs : List R) → Q w rs → Q (w - depth (build key C w rs) (bits w k)) (leaf_at (build key C w rs) (bits w k))
    unfolding build
    leaf_keeps Q k f zero rs q = q
    leaf_keeps Q k f (suc w) rs q =
        elim (dec_le (length rs) C) [
          | yes h ↦ rw (build_le (suc w) rs h, sub-zero) q
          | no h ↦ rw (build_gt w rs (omega arith))
              (elim (bool_cases (bit w k)) [
                | inl e ↦ rw (e, suc-sub-suc) (leaf_keeps Q k f w (side key true w rs) (rw e at (f w rs q)))
                | inr e ↦ rw (e, suc-sub-suc) (leaf_keeps Q k f w (side key false w rs) (rw e at (f w rs q)))
              ])
        ]

    pub leaf_all : (P : R → Type 0) (w k : ℕ) (rs : List R) → All P rs → All P (leaf_at (build key C w rs) (bits w k))
    leaf_all P w k rs = leaf_keeps (λ w ls. All P ls) k (λ w ls. all_side P (bit w k) w ls) w rs

    pub leaf_sorted : (w k : ℕ) (rs : List R) → Sorted key rs → Sorted key (leaf_at (build key C w rs) (bits w k))
    leaf_sorted w k rs = leaf_keeps (λ w ls. Sorted key ls) k (λ w ls. sorted_side (bit w k) w ls) w rs

    -- "its own bits lead to each held record": the keys of a leaf agree with the key that leads to it
    pub leaf_prefix : (w k : ℕ) (rs : List R) → Prefix key w (k / 2 ^ w) rs
        → Prefix key (w - depth (build key C w rs) (bits w k)) (k / 2 ^ (w - depth (build key C w rs) (bits w k)))
        (leaf_at (build key C w rs) (bits w k))
    leaf_prefix w k rs = leaf_keeps (λ w ls. Prefix key w (k / 2 ^ w) ls) k (λ w ls. prefix_side w k ls) w rs

    -- a leaf with bits left holds at most C records
    leaf_ends : (w k : ℕ) (rs : List R)
        → (w - depth (build key C w rs) (bits w k) ≡ 0) ⊎ (length (leaf_at (build key C w rs) (bits w k)) ≤ C)
    unfolding build
    leaf_ends zero k rs = inl refl
    leaf_ends (suc w) k rs =
        elim (dec_le (length rs) C) [
          | yes h ↦ rw (build_le (suc w) rs h) (inr h)
          | no h ↦ rw (build_gt w rs (omega arith))
              (elim (bool_cases (bit w k)) [
                | inl e ↦ rw (e, suc-sub-suc) (leaf_ends w k (side key true w rs))
                | inr e ↦ rw (e, suc-sub-suc) (leaf_ends w k (side key false w rs))
              ])
        ]

    pub leaf_small : 1 ≤ C → (w k : ℕ) (rs : List R) → Sorted key rs → Prefix key w (k / 2 ^ w) rs
        → length (leaf_at (build key C w rs) (bits w k)) ≤ C
    leaf_small c w k rs s p =
        elim (leaf_ends w k rs) [
          | inl e ↦
              omega (
                arith,
                one_left (k / 2 ^ 0) (leaf_at (build key C w rs) (bits w k)) (leaf_sorted w k rs s)
                    (rw e at (leaf_prefix w k rs p)),
              )
          | inr h ↦ h
        ]

    -- the leaf at the key of an inserted record is built anew, and nothing else changes
    pub build_insert : (w : ℕ) (r : R) (rs : List R) → Sorted key rs → build key C w (insert key r rs) ≡ target key C w r (build key C w rs)
    unfolding build
    build_insert zero r rs s = refl
    build_insert (suc w) r rs s =
        elim (dec_le (length rs) C) [
          | yes h ↦ rw (build_le (suc w) rs h, sub-zero)
          | no h ↦ rw (build_gt w rs (omega arith), build_gt w (insert key r rs) (omega (arith, length_insert key r rs)))
              (elim (bool_cases (bit w (key r))) [
                | inl e ↦ rw (side_insert_off false w r rs e, side_insert true w r rs e s, e, suc-sub-suc)
                    (ap (λ (t : Trie (List R)). fork (build key C w (side key false w rs)) t)
                    (build_insert w r (side key true w rs) (sorted_side true w rs s)))
                | inr e ↦ rw (side_insert false w r rs e s, side_insert_off true w r rs e, e, suc-sub-suc)
                    (ap (λ (t : Trie (List R)). fork t (build key C w (side key true w rs)))
                    (build_insert w r (side key false w rs) (sorted_side false w rs s)))
              ])
        ]
