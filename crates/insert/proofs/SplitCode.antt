-- A node that has room, and a node that splits: the parts of the store that are replaced are the blocks put.
--   grown_block_lem == a run halved in its node
--   reached     == a place that is ready is reached by its key
--   left_used, left_depth == a bit is left to its step
--   grow_needs, take_needs, split_needs == what the functions on blocks ask
--   two_put, two_headed == a node taken and two blocks written
--   split_done  == a node taken and both halves written
use mathlib.Core.Path.{◌≡◌, refl, sym, ap, ap₂, ◌∙◌, subst, subst₂}
use mathlib.Core.List.{List}
use Prim.Native.Nat.{ℕ, ◌+◌, ◌-◌, ◌^◌, ◌≤◌, ◌<◌}
use native.Mathlib.Omega.{arith}
use lib.ListN.{length}
use Rattle.lists.specs.Lists.{replaced}
use Rattle.lists.proofs.BitLaws.{length_bits}
use Rattle.store.specs.declared.Format.{Format}
use Rattle.store.specs.declared.Head.{Head}
use Rattle.store.specs.Head.{head_of, node_words, node_start, node_at}
use Rattle.store.specs.Format.{width}
use Rattle.store.proofs.HeadLaws.{Limits, sizes_limits, width_within}
use Rattle.node.specs.Node.{depth_word}
use Rattle.represent.specs.Rep.{Sized}
use Rattle.store.proofs.Places.{node_fits}
use Rattle.search.specs.declared.Step.{Step}
use Rattle.split.specs.Value.{Holder, local_at, Reached}
use Rattle.split.proofs.GrowLaws.{here_low}
use Rattle.split.proofs.Frame.{sized_long, node_taken_levels}
use Rattle.store.specs.Released.{next_node, node_taken}
use Rattle.split.proofs.Kept.{Kept, kept_then}
use Rattle.split.specs.Frame.{node_of, put_node}
use Rattle.split.specs.Round.{Place, put_both, grown, split_node, take_node}
use Rattle.split.specs.Insertion.{word_store}
use Rattle.split.specs.Block.{grow, lower, upper, node_ops}
use Rattle.insert.specs.Enter.{place_of}
use Rattle.insert.specs.Fine.{Ready}
use Rattle.insert.proofs.InsideWrites.{node_head, kept_node, kept₀, nodes₀, length_lower, length_upper}

-- blocks put, in the words of a store's own head
module _ (f : Format) (s : List ℕ) (p : Place) (a c : ℕ) where
  abbrev θ : ℕ
  θ = (head_of s).theta

  -- as a part of the store that is replaced
  abbrev grown_block : Head → List ℕ
  grown_block h =
      replaced (node_start h p.at) (node_words h.theta) (grow h.theta (node_at s h p.at) p.bits a c) s

  pub grown_block_lem : (h : Head) → h ≡ head_of s → grown_block h ≡ grown (node_ops h.theta) (word_store f h.theta) s p a c
  unfolding grown put_node
  grown_block_lem h e = subst (λ x. grown_block x ≡ grown (node_ops x.theta) (word_store f x.theta) s p a c) (sym e) refl

  abbrev split_blocks : List ℕ → Head → ℕ → List ℕ
  split_blocks t h n =
      replaced (node_start h n) (node_words h.theta) (upper h.theta (node_at t h p.at) p.bits a c)
      (replaced (node_start h p.at) (node_words h.theta) (lower h.theta (node_at t h p.at) p.bits a c) t)

  -- the words and the head after a node was taken and both halves written
  abbrev SplitDone : Head → List ℕ → Head → ℕ → List ℕ → Type 0
  SplitDone h t h₀ n v =
      t ≡ node_taken s → h₀ ≡ head_of t → n ≡ next_node s → v ≡ split_blocks t h₀ n
      → (v ≡ split_node (node_ops h.theta) (word_store f h.theta) s p a c) × (h₀ ≡ head_of v)

  module _ (y : Ready f s p) (low : 1 ≤ next_node s) (high : next_node s ≤ (head_of s).node_blocks) where
    abbrev t₀ : List ℕ
    t₀ = take_node (word_store f θ) s

    abbrev lo : List ℕ
    lo = lower θ (node_of s p.at) p.bits a c

    abbrev up : List ℕ
    up = upper θ (node_of s p.at) p.bits a c

    abbrev m : ℕ
    m = next_node s

    pub theta : (head_of t₀).theta ≡ θ
    theta = (kept₀ f θ s y.sized).sizes_same.theta

    -- any two blocks: the head after them, and the words
    module _ (x z : List ℕ) (lx : length x ≡ node_words θ) (lz : length z ≡ node_words θ) where
      k₁ : Kept f t₀ (put_node t₀ p.at x)
      k₁ =
          kept_node f t₀ p.at x (kept₀ f θ s y.sized).sized y.in_use.positive
          (omega (arith, y.in_use.within, y.fits, (kept₀ f θ s y.sized).sizes_same.nodes)) (lx ∙ ap node_words (sym theta))

      one_headed : head_of (put_node t₀ p.at x) ≡ head_of t₀
      one_headed =
          node_head f t₀ p.at x (kept₀ f θ s y.sized).sized y.in_use.positive
          (omega (arith, y.in_use.within, y.fits, (kept₀ f θ s y.sized).sizes_same.nodes)) (lx ∙ ap node_words (sym theta))

      pub two_headed : head_of (put_node (put_node t₀ p.at x) m z) ≡ head_of t₀
      two_headed =
          node_head f (put_node t₀ p.at x) m z k₁.sized low
          (omega (arith, high, k₁.sizes_same.nodes, (kept₀ f θ s y.sized).sizes_same.nodes))
          (lz ∙ ap node_words (sym (k₁.sizes_same.theta ∙ theta)))
          ∙ one_headed

      pub two_put : replaced (node_start (head_of t₀) m) (node_words (head_of t₀).theta) z
          (replaced (node_start (head_of t₀) p.at) (node_words (head_of t₀).theta) x t₀)
          ≡ put_node (put_node t₀ p.at x) m z
      unfolding put_node
      two_put =
          ap (λ (h : Head). replaced (node_start h m) (node_words h.theta) z (put_node t₀ p.at x)) (sym one_headed)

      pub two_kept : Kept f s (put_node (put_node t₀ p.at x) m z)
      two_kept =
          kept_then f s (put_node t₀ p.at x) (put_node (put_node t₀ p.at x) m z)
          (kept_then f s t₀ (put_node t₀ p.at x) (kept₀ f θ s y.sized) k₁)
          (kept_node f (put_node t₀ p.at x) m z k₁.sized low
          (omega (arith, high, k₁.sizes_same.nodes, (kept₀ f θ s y.sized).sizes_same.nodes))
          (lz ∙ ap node_words (sym (k₁.sizes_same.theta ∙ theta))))

    l₀ : length lo ≡ node_words θ
    l₀ = length_lower θ (node_of s p.at) p.bits a c

    l₁ : length up ≡ node_words θ
    l₁ = length_upper θ (node_of s p.at) p.bits a c

    pub split_levels : (head_of (split_node (node_ops θ) (word_store f θ) s p a c)).levels ≡ (head_of s).levels
    unfolding split_node put_both
    split_levels = ap (λ (h : Head). h.levels) (two_headed lo up l₀ l₁) ∙ node_taken_levels s

    split_own : split_blocks t₀ (head_of t₀) m ≡ split_node (node_ops θ) (word_store f θ) s p a c
    unfolding split_node put_both
    split_own =
        ap₂ (λ x ws. replaced (node_start (head_of t₀) m) (node_words (head_of t₀).theta) (upper x ws p.bits a c)
        (replaced (node_start (head_of t₀) p.at) (node_words (head_of t₀).theta) (lower x ws p.bits a c) t₀)) theta
        (nodes₀ f θ s y.sized p.at)
        ∙ two_put lo up l₀ l₁

    split_plain : (t : List ℕ) (h₀ : Head) (n : ℕ) (v : List ℕ) → SplitDone (head_of s) t h₀ n v
    unfolding split_node put_both
    split_plain t h₀ n v e g i w =
        let own : h₀ ≡ head_of t₀ = g ∙ ap head_of e in
        let is : v ≡ split_node (node_ops θ) (word_store f θ) s p a c = w ∙ ap₂ (λ x h. split_blocks x h n) e own ∙ ap (split_blocks t₀ (head_of t₀)) i ∙ split_own in
        (is, own ∙ sym (ap head_of is ∙ two_headed lo up l₀ l₁))

  pub split_done : Ready f s p → (h : Head) (t : List ℕ) (h₀ : Head) (n : ℕ) (v : List ℕ) → h ≡ head_of s → 1 ≤ next_node s
      → next_node s ≤ h.node_blocks → SplitDone h t h₀ n v
  split_done y h t h₀ n v e low =
      subst (λ x. next_node s ≤ x.node_blocks → SplitDone x t h₀ n v) (sym e) (λ high. split_plain y low high t h₀ n v)

-- what is asked before a node is taken
pub take_needs : (f : Format) (s : List ℕ) → Sized f s → (head_of s).nodes_taken ≤ (head_of s).node_blocks → (h : Head) → h ≡ head_of s
    → (16 ≤ length s) × (h ≡ head_of s) × (h.theta ≤ 6) × (h.nodes_taken ≤ 4096)
take_needs f s ok fits h e =
    let l = sizes_limits _ _ _ _ ok.sizes in (
      sized_long f s ok,
      e,
      omega (arith, ap (λ (x : Head). x.theta) e, l.theta),
      omega (arith, ap (λ (x : Head). x.nodes_taken) e, l.nodes),
    )

-- the step of a node that may be written: a bit is left
pub left_used : (f : Format) (s : List ℕ) (k : ℕ) (t : Step) → Ready f s (place_of f k t) → t.used < width f
left_used f s k t y = omega (arith, y.left, length_bits (width f - t.used) k)

pub left_depth : (f : Format) (s : List ℕ) (k : ℕ) (t : Step) → Ready f s (place_of f k t) → t.depth < 64
left_depth f s k t y = omega (arith, y.left, length_bits (width f - t.used) k, width_within f)

-- what is asked of a place's block, where the store's head is h
pub reached : (f : Format) (θ : ℕ) (ws : List ℕ) (k : ℕ) (t : Step) → Holder θ ws (place_of f k t).bits t.depth
    → Reached f θ ws k t.used
reached f θ ws k t w = record { shallow = w.shallow; here = refl; left = w.left }

module _ (f : Format) (s : List ℕ) (k : ℕ) (t : Step) (y : Ready f s (place_of f k t)) (narrow : k < 2 ^ width f) where
  limits : Limits (head_of s).theta (head_of s).capacity (head_of s).node_blocks (head_of s).page_blocks
  limits = sizes_limits _ _ _ _ y.sized.sizes

  abbrev GrowNeeds : Head → Type 0
  GrowNeeds h =
      (h.theta ≤ 6) × (node_start h t.node + node_words h.theta ≤ length s) × (k < 2 ^ width f)
      × Reached f h.theta (node_at s h t.node) k t.used
      × (local_at (node_at s h t.node) (place_of f k t).bits < h.theta)

  pub grow_needs : (h : Head) → h ≡ head_of s → t.depth < h.theta → GrowNeeds h
  grow_needs h e = subst (λ x. t.depth < x.theta → GrowNeeds x) (sym e) (λ room. (
    limits.theta,
    node_fits (head_of s) f t.node (length s) y.in_use.positive (omega (arith, y.in_use.within, y.fits)) y.sized.long,
    narrow,
    reached f (head_of s).theta (node_of s t.node) k t y.holder,
    omega (arith, y.holder.here),
  ))

  -- after a node was taken
  abbrev SplitNeeds : List ℕ → Head → ℕ → Type 0
  SplitNeeds v h n =
      (1 ≤ h.theta) × (h.theta ≤ 6) × (node_start h t.node + node_words h.theta ≤ length v)
      × (node_start h n + node_words h.theta ≤ length v) × (k < 2 ^ width f)
      × Reached f h.theta (node_at v h t.node) k t.used × (depth_word (node_at v h t.node) 0 ≡ h.theta)

  module _ (low : 1 ≤ next_node s) (high : next_node s ≤ (head_of s).node_blocks) (full : (head_of s).theta ≤ t.depth) where
    abbrev v₀ : List ℕ
    v₀ = take_node (word_store f (head_of s).theta) s

    kept : Kept f s v₀
    kept = kept₀ f (head_of s).theta s y.sized

    needs_own : SplitNeeds v₀ (head_of v₀) (next_node s)
    needs_own =
        let n = kept.sizes_same.nodes in
        let ws = nodes₀ f (head_of s).theta s y.sized t.node in
        let w = y.holder in (
          omega (arith, limits.theta_low, kept.sizes_same.theta),
          omega (arith, limits.theta, kept.sizes_same.theta),
          node_fits (head_of v₀) f t.node (length v₀) y.in_use.positive (omega (arith, y.in_use.within, y.fits, n))
              kept.sized.long,
          node_fits (head_of v₀) f (next_node s) (length v₀) low (omega (arith, high, n)) kept.sized.long,
          narrow,
          subst₂ (λ x b. Reached f x b k t.used) (sym kept.sizes_same.theta) (sym ws)
              (reached f (head_of s).theta (node_of s t.node) k t w),
          ap (λ b. depth_word b 0) ws ∙ omega (arith, w.shallow.low, full, here_low _ _ _ _ w) ∙ sym kept.sizes_same.theta,
        )

  pub split_needs : (h : Head) (v : List ℕ) (h₀ : Head) (n : ℕ) → h ≡ head_of s → 1 ≤ next_node s → next_node s ≤ h.node_blocks
      → h.theta ≤ t.depth → v ≡ node_taken s → h₀ ≡ head_of v → n ≡ next_node s → SplitNeeds v h₀ n
  split_needs h v h₀ n e low =
      subst (λ x. next_node s ≤ x.node_blocks → x.theta ≤ t.depth → v ≡ node_taken s
      → h₀ ≡ head_of v → n ≡ next_node s → SplitNeeds v h₀ n) (sym e)
      (λ high full g i j.
      subst (SplitNeeds v h₀) (sym j) (subst₂ (λ x y. SplitNeeds x y (next_node s)) (sym g) (sym (i ∙ ap head_of g)) (needs_own low high full)))
