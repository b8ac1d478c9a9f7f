-- Every index is the index of a key, and the entry at a key does not depend on the array's bits; so arrays of one trie are copies of each
-- other, stretched or thinned. Depths, lowered or compared, go through the array entry by entry.
use mathlib.Core.Path.{◌≡◌, sym, ap, ap₂, ◌∙◌}
use mathlib.Core.List.{List, [], ◌∷◌, ◌++◌, map, map-append}
use Prim.Native.Nat.{ℕ, zero, suc, ◌-◌, ◌/◌, ◌^◌, ◌≤◌, ◌<◌, max}
use native.Mathlib.Nat.{le_trans, add-zero}
use native.Mathlib.Omega.{arith}
use lib.ListN.{get_or, replicate}
use lib.Pow.{pow_pos}
use Rattle.lists.specs.Bits.{bits}
use Rattle.lists.proofs.BitLaws.{index_own, index_shr}
use Rattle.lists.proofs.Parts.{map_replicate}
use Rattle.tree.specs.Trie.{Trie, leaf, fork, Key, height, depth}
use Rattle.tree.specs.Node.{Entry, flatten, largest, lowered}
use Rattle.tree.specs.NodePromises.{LargestIs}
use Rattle.tree.proofs.TrieLaws.{depth_le_height}
use Rattle.tree.proofs.Flatten.{entry}

module _ {A : Type 0} where
  -- an array of H bits has each entry of an array of K bits 2^(H−K) times
  pub scale : (H K : ℕ) (t : Trie A) (d : ℕ) (z : Entry A) (j : ℕ) → height t ≤ K → K ≤ H → j < 2 ^ H
      → get_or (flatten H t d) j z ≡ get_or (flatten K t d) (j / 2 ^ (H - K)) z
  scale H K t d z j p q h =
      let k : Key = bits H j in
      let f : depth t k ≤ K = le_trans (depth_le_height t k) p in
      ap (λ n. get_or (flatten H t d) n z) (sym (index_own H j h))
      ∙ entry H t k d (le_trans f q) z
      ∙ sym (entry K t k d f z)
      ∙ ap (λ n. get_or (flatten K t d) n z) (index_shr H K j q h)

  -- the largest depth
  largest_append : (a b : List (Entry A)) → largest (a ++ b) ≡ max (largest a) (largest b)
  largest_append [] b = omega arith
  largest_append (e ∷ a) b = omega (arith, largest_append a b)

  largest_replicate : (n d : ℕ) (x : A) → 0 < n → largest (replicate n (d, x)) ≡ d
  largest_replicate zero d x h = absurd (omega arith)
  largest_replicate (suc zero) d x h = omega arith
  largest_replicate (suc (suc n)) d x h = omega (arith, largest_replicate (suc n) d x (omega arith))

  pub largest_flatten : LargestIs A
  largest_flatten H (leaf x) d p = largest_replicate (2 ^ H) d x (pow_pos H) ∙ sym (add-zero d)
  largest_flatten zero (fork l r) d p = absurd (omega arith)
  largest_flatten (suc H) (fork l r) d p =
      largest_append (flatten H l (suc d)) (flatten H r (suc d))
      ∙ omega (arith, largest_flatten H l (suc d) (omega arith), largest_flatten H r (suc d) (omega arith))

  -- lowered depths
  pub lowered_flatten : (H : ℕ) (t : Trie A) (d : ℕ) → map lowered (flatten H t (suc d)) ≡ flatten H t d
  lowered_flatten H (leaf x) d = map_replicate lowered (2 ^ H) (suc d, x)
  lowered_flatten zero (fork l r) d = lowered_flatten zero l (suc d)
  lowered_flatten (suc H) (fork l r) d =
      map-append lowered (flatten H l (suc (suc d))) (flatten H r (suc (suc d)))
      ∙ ap₂ ◌++◌ (lowered_flatten H l (suc d)) (lowered_flatten H r (suc d))
