-- The array of a fork is the arrays of its two tries, one after the other, and the key's bit chooses the half. So the leaf at a key stands
-- in one aligned run, and a trie grafted there changes that run alone.
--   start H t k == where the run at the key starts
--   size H t k  == how many entries it has
use mathlib.Core.Path.{◌≡◌, sym, ap, ◌∙◌}
use mathlib.Core.Bool.{true, false}
use mathlib.Core.List.{[], ◌∷◌, ◌++◌}
use Prim.Native.Nat.{ℕ, zero, suc, ◌+◌, ◌-◌, ◌*◌, ◌^◌, ◌≤◌, ◌<◌}
use native.Mathlib.Nat.{suc-add, zero-mul, add-zero, add-suc, suc-sub-suc, sub-zero, mul-le-mul_right}
use native.Mathlib.Omega.{arith}
use lib.ListN.{length, get_or, drop, length-append, length-replicate, get_or-replicate}
use Rattle.lists.specs.Bits.{index}
use Rattle.lists.proofs.Powers.{pow_split}
use Rattle.lists.proofs.BitLaws.{index_lt, index_split}
use Rattle.lists.specs.Lists.{replaced}
use Rattle.lists.proofs.Parts.{replaced_all, replaced_left, replaced_right, replaced_in}
use Rattle.tree.specs.Trie.{Trie, leaf, fork, Key, leaf_at, depth, graft}
use Rattle.tree.specs.Node.{Entry, flatten}
use Rattle.tree.specs.NodePromises.{Length}
use Rattle.tree.proofs.TrieLaws.{graft_leaf_at}

module _ {A : Type 0} where
  pub length_flatten : Length A
  length_flatten H (leaf x) d = length-replicate (2 ^ H) (d, x)
  length_flatten zero (fork l r) d = length_flatten zero l (suc d)
  length_flatten (suc H) (fork l r) d =
      length-append (flatten H l (suc d)) (flatten H r (suc d)) ∙ omega (arith, length_flatten H l (suc d), length_flatten H r (suc d))

  abbrev pub start : ℕ → Trie A → Key → ℕ
  start H t k = index (depth t k) k * 2 ^ (H - depth t k)

  abbrev pub size : ℕ → Trie A → Key → ℕ
  size H t k = 2 ^ (H - depth t k)

  room : (H : ℕ) (t : Trie A) (k : Key) (d : ℕ) → depth t k ≤ H → start H t k + size H t k ≤ length (flatten H t d)
  room H t k d fits = omega (arith, mul-le-mul_right (size H t k) (index_lt (depth t k) k), pow_split fits, length_flatten H t d)

  -- the run at the key, replaced
  pub graft_run : (H : ℕ) (t s : Trie A) (k : Key) (d : ℕ) → depth t k ≤ H
      → flatten H (graft t k s) d ≡ replaced (start H t k) (size H t k) (flatten (H - depth t k) s (d + depth t k)) (flatten H t d)
  graft_run H (leaf x) s k d h =
      simp (zero-mul, sub-zero, add-zero) (sym (replaced_all (2 ^ H) (flatten H s d) (flatten H (leaf x) d) (length_flatten H (leaf x) d)))
  graft_run zero (fork l r) s [] d h = absurd (omega arith)
  graft_run zero (fork l r) s (false ∷ k) d h = absurd (omega arith)
  graft_run zero (fork l r) s (true ∷ k) d h = absurd (omega arith)
  graft_run (suc H) (fork l r) s [] d h =
      ap (λ u. u ++ flatten H r (suc d)) (graft_run H l s [] (suc d) (omega arith))
      ∙ replaced_left _ _ _ _ (flatten H r (suc d)) (room H l [] (suc d) (omega arith))
      ∙ simp (suc-sub-suc, add-suc, suc-add)
  graft_run (suc H) (fork l r) s (false ∷ k) d h =
      ap (λ u. u ++ flatten H r (suc d)) (graft_run H l s k (suc d) (omega arith))
      ∙ replaced_left _ _ _ _ (flatten H r (suc d)) (room H l k (suc d) (omega arith))
      ∙ simp (suc-sub-suc, add-suc, suc-add)
  graft_run (suc H) (fork l r) s (true ∷ k) d h =
      let e : length (flatten H l (suc d)) + start H r k ≡ start (suc H) (fork l r) (true ∷ k) =
      rw suc-sub-suc (omega (arith, length_flatten H l (suc d), pow_split {h = depth r k} {H = H} (omega arith))) in
      ap (λ u. flatten H l (suc d) ++ u) (graft_run H r s k (suc d) (omega arith))
      ∙ replaced_right _ _ _ (flatten H l (suc d)) (flatten H r (suc d))
      ∙ simp (e, suc-sub-suc, add-suc, suc-add)

  module _ (H : ℕ) (t : Trie A) (k : Key) (d : ℕ) (fits : depth t k ≤ H) where
    module _ (s : Trie A) (z : Entry A) (j : ℕ) where
      long : length (flatten (H - depth t k) s (d + depth t k)) ≡ size H t k
      long = length_flatten (H - depth t k) s (d + depth t k)

      pub graft_in : j < size H t k
          → get_or (flatten H (graft t k s) d) (start H t k + j) z ≡ get_or (flatten (H - depth t k) s (d + depth t k)) j z
      graft_in h = rw (graft_run H t s k d fits) (replaced_in _ _ _ _ (room H t k d fits) long z j h)

    -- the run is constant
    pub run : (z : Entry A) (j : ℕ) → j < size H t k → get_or (flatten H t d) (start H t k + j) z ≡ (d + depth t k, leaf_at t k)
    run z j h =
        ap (λ u. get_or (flatten H u d) (start H t k + j) z) (sym (graft_leaf_at t k))
        ∙ graft_in (leaf (leaf_at t k)) z j h
        ∙ get_or-replicate (size H t k) j (d + depth t k, leaf_at t k) z h

    pub entry : (z : Entry A) → get_or (flatten H t d) (index H k) z ≡ (d + depth t k, leaf_at t k)
    entry z = rw (index_split k fits) (run z (index (H - depth t k) (drop (depth t k) k)) (index_lt (H - depth t k) (drop (depth t k) k)))
