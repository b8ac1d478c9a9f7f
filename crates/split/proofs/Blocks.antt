-- The operations on the block of a node, of which the level, the links and what stands below are known.
--   Written ws level back forward v == ws is a node's block with these
use mathlib.Core.Path.{◌≡◌, refl, ap, ◌∙◌}
use mathlib.Core.List.{List}
use Prim.Native.Nat.{ℕ, ◌≤◌, ◌<◌}
use native.Mathlib.Omega.{arith}
use Rattle.tree.specs.Trie.{Trie, leaf, fork, Key, height, depth, graft, pair}
use Rattle.tree.proofs.TrieLaws.{depth_le_height, height_graft, height_split}
use Rattle.node.specs.Node.{back_word, forward_word}
use Rattle.represent.specs.Image.{node_image, NodeIs}
use Rattle.split.specs.Round.{NodeOps, NodeLaws}

module _ (θ : ℕ) where
  pub record Written (ws : List ℕ) (level back forward : ℕ) (v : Trie ℕ) : Type 0 where
    pub is : NodeIs θ ws level v
    pub back_is : back_word ws 0 ≡ back
    pub forward_is : forward_word ws 0 ≡ forward

  links_image : (level back forward : ℕ) (v : Trie ℕ)
      → (back_word (node_image θ level back forward v) 0 ≡ back) × (forward_word (node_image θ level back forward v) 0 ≡ forward)
  unfolding node_image
  links_image level back forward v = (refl, refl)

  image_written : (ws : List ℕ) (level back forward : ℕ) (v : Trie ℕ) → height v ≤ θ → ws ≡ node_image θ level back forward v
      → Written ws level back forward v
  image_written ws level back forward v low e =
      let b : back_word ws 0 ≡ back = ap (λ (w : List ℕ). back_word w 0) e ∙ (links_image level back forward v).0 in
      let f : forward_word ws 0 ≡ forward = ap (λ (w : List ℕ). forward_word w 0) e ∙ (links_image level back forward v).1 in
      record { is = record { low = low; image = rw (b, f) e }; back_is = b; forward_is = f }

module _ {θ : ℕ} {I : NodeOps} (A : NodeLaws θ I) where
  pub top_written : (level a c : ℕ) → 1 ≤ θ → Written θ (I.top level a c) level 0 0 (pair a c)
  top_written level a c h = image_written θ _ level 0 0 (pair a c) (omega arith) (A.top_is level a c)

  module _ {ws : List ℕ} {level : ℕ} {v : Trie ℕ} (h : NodeIs θ ws level v) where
    abbrev back : ℕ
    back = back_word ws 0

    abbrev forward : ℕ
    forward = forward_word ws 0

    pub grow_written : (k : Key) (a c : ℕ) → depth v k < θ → Written θ (I.grow ws k a c) level back forward (graft v k (pair a c))
    grow_written k a c d =
        image_written θ _ level back forward _ (omega (arith, h.low, height_split v k a c))
        (ap (λ (w : List ℕ). I.grow w k a c) h.image ∙ A.grow_is level back forward v k a c h.low d)

    pub aim_written : (k : Key) (q : ℕ) → Written θ (I.aim ws k q) level back forward (graft v k (leaf q))
    aim_written k q =
        image_written θ _ level back forward _ (omega (arith, h.low, height_graft v k (leaf q), depth_le_height v k))
        (ap (λ (w : List ℕ). I.aim w k q) h.image ∙ A.aim_is level back forward v k q h.low)

    pub linked_written : (p q : ℕ) → Written θ (I.linked ws p q) level p q v
    linked_written p q =
        image_written θ _ level p q v h.low
        (ap (λ (w : List ℕ). I.linked w p q) h.image ∙ A.linked_is level back forward p q v h.low)

    -- the two halves l and r
    module _ (k : Key) (a c : ℕ) {l r : Trie ℕ} (d : θ ≤ depth v k) (e : graft v k (pair a c) ≡ fork l r) where
      halves_low : (height l ≤ θ) × (height r ≤ θ)
      halves_low =
          let m : height (graft v k (pair a c)) ≡ height (fork l r) = ap height e in
          omega (arith, m, h.low, height_split v k a c, depth_le_height v k)

      pub lower_written : Written θ (I.lower ws k a c) level back forward l
      lower_written =
          image_written θ _ level back forward l (omega (arith, halves_low))
          (ap (λ (w : List ℕ). I.lower w k a c) h.image ∙ A.lower_is level back forward v l r k a c h.low d e)

      pub upper_written : Written θ (I.upper ws k a c) level back forward r
      upper_written =
          image_written θ _ level back forward r (omega (arith, halves_low))
          (ap (λ (w : List ℕ). I.upper w k a c) h.image ∙ A.upper_is level back forward v l r k a c h.low d e)
