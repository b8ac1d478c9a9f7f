-- Tries at a key: what a graft does to height, depth and leaves. Each by recursion along the key.
use mathlib.Core.Path.{◌≡◌, refl, ap, ◌∙◌}
use mathlib.Core.Bool.{true, false}
use mathlib.Core.List.{[], ◌∷◌}
use Prim.Native.Nat.{ℕ, zero, suc, ◌+◌, ◌-◌, ◌≤◌, max}
use native.Mathlib.Nat.{sub-zero, suc-sub-suc}
use lib.ListN.{drop}
use native.Mathlib.Omega.{arith}
use mathlib.Core.Logic.{inl, inr}
use Rattle.lists.specs.Bits.{bit, bits}
use Rattle.lists.proofs.Cases.{bool_cases}
use Rattle.tree.specs.Trie.{Trie, leaf, fork, Shape, Key, shape, height, leaves, leaf_at, depth, rest, graft, pair, relabel}

module _ {A : Type 0} where
  pub depth_le_height : (t : Trie A) (k : Key) → depth t k ≤ height t
  depth_le_height (leaf x) k = omega arith
  depth_le_height (fork l r) [] = omega (arith, depth_le_height l [])
  depth_le_height (fork l r) (false ∷ k) = omega (arith, depth_le_height l k)
  depth_le_height (fork l r) (true ∷ k) = omega (arith, depth_le_height r k)

  pub leaves_pos : (t : Trie A) → 1 ≤ leaves t
  leaves_pos (leaf x) = omega arith
  leaves_pos (fork l r) = omega (arith, leaves_pos l)

  pub graft_leaf_at : (t : Trie A) (k : Key) → graft t k (leaf (leaf_at t k)) ≡ t
  graft_leaf_at (leaf x) k = refl
  graft_leaf_at (fork l r) [] = ap (λ (u : Trie A). fork u r) (graft_leaf_at l [])
  graft_leaf_at (fork l r) (false ∷ k) = ap (λ (u : Trie A). fork u r) (graft_leaf_at l k)
  graft_leaf_at (fork l r) (true ∷ k) = ap (λ (u : Trie A). fork l u) (graft_leaf_at r k)

  pub height_graft : (t : Trie A) (k : Key) (c : Trie A) → height (graft t k c) ≤ max (height t) (depth t k + height c)
  height_graft (leaf x) k c = omega arith
  height_graft (fork l r) [] c = omega (arith, height_graft l [] c)
  height_graft (fork l r) (false ∷ k) c = omega (arith, height_graft l k c)
  height_graft (fork l r) (true ∷ k) c = omega (arith, height_graft r k c)

  pub graft_graft : (t : Trie A) (k : Key) (c d : Trie A) → graft (graft t k c) k d ≡ graft t k (graft c (rest t k) d)
  graft_graft (leaf x) k c d = refl
  graft_graft (fork l r) [] c d = ap (λ (t : Trie A). fork t r) (graft_graft l [] c d)
  graft_graft (fork l r) (false ∷ k) c d = ap (λ (t : Trie A). fork t r) (graft_graft l k c d)
  graft_graft (fork l r) (true ∷ k) c d = ap (λ (t : Trie A). fork l t) (graft_graft r k c d)

  pub leaf_at_graft : (t : Trie A) (k : Key) (c : Trie A) → leaf_at (graft t k c) k ≡ leaf_at c (rest t k)
  leaf_at_graft (leaf x) k c = refl
  leaf_at_graft (fork l r) [] c = leaf_at_graft l [] c
  leaf_at_graft (fork l r) (false ∷ k) c = leaf_at_graft l k c
  leaf_at_graft (fork l r) (true ∷ k) c = leaf_at_graft r k c

  pub depth_graft : (t : Trie A) (k : Key) (c : Trie A) → depth (graft t k c) k ≡ depth t k + depth c (rest t k)
  depth_graft (leaf x) k c = omega arith
  depth_graft (fork l r) [] c = omega (arith, depth_graft l [] c)
  depth_graft (fork l r) (false ∷ k) c = omega (arith, depth_graft l k c)
  depth_graft (fork l r) (true ∷ k) c = omega (arith, depth_graft r k c)

  pub leaves_graft : (t : Trie A) (k : Key) (c : Trie A) → leaves (graft t k c) + 1 ≡ leaves t + leaves c
  leaves_graft (leaf x) k c = omega arith
  leaves_graft (fork l r) [] c = omega (arith, leaves_graft l [] c)
  leaves_graft (fork l r) (false ∷ k) c = omega (arith, leaves_graft l k c)
  leaves_graft (fork l r) (true ∷ k) c = omega (arith, leaves_graft r k c)

  -- halving the leaf at the key
  pub depth_pair : (x y : A) (k : Key) → depth (pair x y) k ≡ 1
  depth_pair x y [] = refl
  depth_pair x y (false ∷ k) = refl
  depth_pair x y (true ∷ k) = refl

  pub height_split : (t : Trie A) (k : Key) (x y : A) → height (graft t k (pair x y)) ≡ max (height t) (suc (depth t k))
  height_split (leaf a) k x y = omega arith
  height_split (fork l r) [] x y = omega (arith, height_split l [] x y)
  height_split (fork l r) (false ∷ k) x y = omega (arith, height_split l k x y)
  height_split (fork l r) (true ∷ k) x y = omega (arith, height_split r k x y)

  pub depth_split : (t : Trie A) (k : Key) (x y : A) → depth (graft t k (pair x y)) k ≡ suc (depth t k)
  depth_split t k x y = depth_graft t k (pair x y) ∙ omega (arith, depth_pair x y (rest t k))

  pub rest_bits : (t : Trie A) (w k : ℕ) → depth t (bits w k) ≤ w → rest t (bits w k) ≡ bits (w - depth t (bits w k)) k
  rest_bits (leaf x) w k h = rw sub-zero
  rest_bits (fork l r) zero k h = absurd (omega arith)
  rest_bits (fork l r) (suc w) k h =
      elim (bool_cases (bit w k)) [
        | inl e ↦ rw (e, suc-sub-suc) (rest_bits r w k (omega (arith, rw e at h)))
        | inr e ↦ rw (e, suc-sub-suc) (rest_bits l w k (omega (arith, rw e at h)))
      ]

module _ {A : Type 0} where
  pub height_shape : (t : Trie A) → height (shape t) ≡ height t
  height_shape (leaf x) = refl
  height_shape (fork l r) = omega (arith, height_shape l, height_shape r)

  pub depth_shape : (t : Trie A) (k : Key) → depth (shape t) k ≡ depth t k
  depth_shape (leaf x) k = refl
  depth_shape (fork l r) [] = ap suc (depth_shape l [])
  depth_shape (fork l r) (false ∷ k) = ap suc (depth_shape l k)
  depth_shape (fork l r) (true ∷ k) = ap suc (depth_shape r k)

  pub rest_shape : (t : Trie A) (k : Key) → rest (shape t) k ≡ rest t k
  rest_shape (leaf x) k = refl
  rest_shape (fork l r) [] = rest_shape l []
  rest_shape (fork l r) (false ∷ k) = rest_shape l k
  rest_shape (fork l r) (true ∷ k) = rest_shape r k

  pub shape_graft : (t : Trie A) (k : Key) (c : Trie A) → shape (graft t k c) ≡ graft (shape t) k (shape c)
  shape_graft (leaf x) k c = refl
  shape_graft (fork l r) [] c = ap (λ (s : Shape). fork s (shape r)) (shape_graft l [] c)
  shape_graft (fork l r) (false ∷ k) c = ap (λ (s : Shape). fork s (shape r)) (shape_graft l k c)
  shape_graft (fork l r) (true ∷ k) c = ap (λ (s : Shape). fork (shape l) s) (shape_graft r k c)

-- one bit more is taken up
pub rest_split : {A : Type 0} (t : Trie A) (k : Key) (x y : A) → rest (graft t k (pair x y)) k ≡ drop 1 (rest t k)
rest_split (leaf z) [] x y = refl
rest_split (leaf z) (false ∷ k) x y = refl
rest_split (leaf z) (true ∷ k) x y = refl
rest_split (fork l r) [] x y = rest_split l [] x y
rest_split (fork l r) (false ∷ k) x y = rest_split l k x y
rest_split (fork l r) (true ∷ k) x y = rest_split r k x y

pub shape_relabel : {A B : Type 0} (g : A → B) (t : Trie A) → shape (relabel g t) ≡ shape t
shape_relabel g (leaf x) = refl
shape_relabel g (fork l r) = rw (shape_relabel g l, shape_relabel g r)
