-- A node block that is lent as a part of the store, nd: what the code reads in it is what the definitions read in the store.
use mathlib.Core.Path.{◌≡◌, refl, sym, ap, ◌∙◌}
use mathlib.Core.Bool.{Bool, true, false, ◌&&◌}
use mathlib.Core.List.{List}
use Prim.Native.Nat.{ℕ, ◌+◌, ◌*◌, ◌^◌, ◌≤◌, ◌<◌}
use native.Mathlib.Nat.{lt_of_lt_of_le}
use native.Mathlib.Omega.{arith}
use lib.Dec.{leb}
use lib.ListN.{length, get_or}
use lib.Pow.{pow_mono}
use Rattle.store.specs.declared.Format.{Format}
use Rattle.store.specs.declared.Head.{Head}
use Rattle.store.specs.Format.{width}
use Rattle.store.specs.Head.{largest_capacity, node_words, node_start, node_at, InUse, Under}
use Rattle.store.proofs.HeadLaws.{levels_within}
use Rattle.store.proofs.Places.{under_limits, under_counts, node_length}
use Rattle.node.specs.Node.{depth_word, link_rule, pointer_high, node_rule, entry_number}
use Rattle.node.proofs.EntryNumber.{entry_below}
use Rattle.node.proofs.InPlace.{rule_in_place, depth_in_place, entry_in_place}
use Rattle.search.specs.Descent.{entry_visit, limited, limits_of, sound_node, own_visit}

-- the limits that a test of a node asks
pub under_node : {f : Format} {s : List ℕ} {h : Head} → Under f s h
    → (h.theta ≤ 6) × (h.nodes_taken ≤ 4096) × (h.pages_taken ≤ 4096)
under_node u =
    let l = under_limits u in
    let c = under_counts u in
    (l.theta, omega (arith, l.nodes, c.taken), omega (arith, l.pages, c.filled))

-- the limits that a page asks
pub under_page : {f : Format} {s : List ℕ} {h : Head} → Under f s h → (h.theta ≤ 6) × (h.capacity ≤ largest_capacity)
under_page u = let l = under_limits u in (l.theta, l.capacity)

-- at most 32 levels
pub under_levels : {f : Format} {s : List ℕ} {h : Head} → Under f s h → (1 ≤ h.levels) × (h.levels ≤ 32)
under_levels {f} {s} {h} u =
    let c = under_counts u in
    (c.levels_low, omega (arith, c.levels, levels_within f h.theta h.capacity (under_limits u).theta_low))

-- the root is a node in use
pub root_in_use : {f : Format} {s : List ℕ} {h : Head} → Under f s h → InUse h h.root
root_in_use u = let c = under_counts u in record { positive = c.root_low; within = c.root }

-- the same of a head with just those
pub limits_asked : {θ nodes pages : ℕ} (nd : List ℕ) → θ ≤ 6 → nodes ≤ 4096 → pages ≤ 4096 → length nd ≡ node_words θ → {l : Head}
    → l ≡ limited θ nodes pages → (l.theta ≤ 6) × (l.nodes_taken ≤ 4096) × (l.pages_taken ≤ 4096) × (length nd ≡ node_words l.theta)
unfolding limited
limits_asked nd a b c d e = rw e (a, b, c, d)

module _ {f : Format} {s : List ℕ} {h : Head} (u : Under f s h) {n : ℕ} (i : InUse h n) {nd : List ℕ} (e : nd ≡ node_at s h n) where
  pub block_long : length nd ≡ node_words h.theta
  block_long = ap length e ∙ node_length u i

  pub block_words : 6 ≤ length nd
  unfolding node_words
  block_words = omega (arith, block_long, pow_mono {i = 0} {j = h.theta} (omega arith))

  pub block_rule : (level : ℕ) → node_rule h nd 0 level ≡ node_rule h s (node_start h n) level
  block_rule level = ap (λ ws. node_rule h ws 0 level) e ∙ rule_in_place u i level

  pub block_depth : get_or nd 0 0 ≡ depth_word s (node_start h n)
  block_depth = ap (λ ws. get_or ws 0 0) e ∙ depth_in_place u i

  -- the limits of the head are enough for its rule
  module _ (level : ℕ) where
    pub limits_rule : node_rule (limits_of h) nd 0 level ≡ node_rule h nd 0 level
    unfolding limited node_rule link_rule pointer_high
    limits_rule = refl

    -- what is asked of a block whose rule is to be tested
    pub block_tested : (b : Bool) → (b ≡ false → node_rule h s (node_start h n) level ≡ true)
        → (h.theta ≤ 6) × (h.nodes_taken ≤ 4096) × (h.pages_taken ≤ 4096) × (length nd ≡ node_words h.theta)
        × (b ≡ false → node_rule (limits_of h) nd 0 level ≡ true)
    block_tested b t = let q = under_node u in (q.0, q.1, q.2, block_long, λ p. limits_rule ∙ block_rule level ∙ t p)

  module _ (level used : ℕ) where
    pub block_broken : node_rule h nd 0 level ≡ false → false ≡ sound_node f s h level n used
    block_broken t = sym (ap (λ b. b && leb (used + depth_word s (node_start h n)) (width f)) (sym (block_rule level) ∙ t))

    pub block_sound : node_rule h nd 0 level ≡ true → {w : ℕ} → w ≡ width f → leb (used + get_or nd 0 0) w ≡ sound_node f s h level n used
    block_sound t p = rw (p, block_depth, ← block_rule level, t)

  -- the key's entry
  module _ (deep : depth_word s (node_start h n) ≤ h.theta) (k used : ℕ) {j : ℕ}
      (ej : j ≡ entry_number (width f) k used (get_or nd 0 0)) where
    number : j ≡ entry_number (width f) k used (depth_word s (node_start h n))
    number = ej ∙ ap (entry_number (width f) k used) block_depth

    pub own_below : j < 2 ^ h.theta
    own_below =
        let d : ℕ = depth_word s (node_start h n) in
        rw number (lt_of_lt_of_le (entry_below (width f) k used d) (pow_mono {i = d} {j = h.theta} deep))

    pub own_inside : 5 + 2 * j < length nd
    unfolding node_words
    own_inside = omega (arith, block_long, own_below)

    pub own_read : record { ok = true; entry = j; depth = get_or nd (4 + 2 * j) 0; pointer = get_or nd (5 + 2 * j) 0 } ≡ own_visit f s h k n used
    unfolding own_visit entry_visit
    own_read =
        let p = entry_in_place u i j own_below in
        rw (e, p.0, p.1) (ap (entry_visit s (node_start h n)) number)
