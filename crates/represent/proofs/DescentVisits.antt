-- The descent with a key, level by level upwards: the way from the root is the same as the way on from the key's node of any level, with
-- the steps above it taken. At each node the next bits of the key number the entry that the tries have at the key.
use mathlib.Core.Path.{◌≡◌, refl, sym, ap, ap₂, ◌∙◌}
use mathlib.Core.Bool.{true, false}
use mathlib.Core.List.{List, [], ◌∷◌, ◌++◌}
use Prim.Native.Nat.{ℕ, zero, suc, ◌+◌, ◌-◌, ◌^◌, ◌≤◌, ◌<◌, max}
use native.Mathlib.Omega.{arith}
use native.Mathlib.Nat.{suc-sub-suc, sub-zero, zero-add}
use lib.ListN.{length, length-map, set, drop, replicate, get_or, replicate-append-replicate}
use lib.Seq.{drop-nil}
use Rattle.lists.specs.Bits.{bits, index}
use Rattle.tree.specs.Trie.{Trie, leaf, fork, Key, Shape, shape, height, leaf_at, depth, rest, relabel}
use Rattle.tree.specs.Tower.{cut, levels_above, tower}
use Rattle.tree.specs.Node.{flatten}
use Rattle.tree.proofs.TrieLaws.{depth_le_height, height_shape}
use Rattle.tree.proofs.TowerLaws.{height_cut}
use Rattle.tree.proofs.NodePromises.{at_key}
use Rattle.store.specs.declared.Format.{Format}
use Rattle.store.specs.declared.Head.{Head}
use Rattle.store.specs.Format.{width}
use Rattle.store.specs.Head.{head_of, node_start, node_at}
use Rattle.node.specs.Node.{depth_word, entry_of, node_rule, entry_number}
use Rattle.node.proofs.EntryNumber.{entry_index, entry_below}
use Rattle.store.proofs.HeadLaws.{sizes_limits, width_within}
use Rattle.search.specs.declared.Step.{Step}
use Rattle.search.specs.Descent.{no_step, no_steps, step_taken, descend, descent}
use Rattle.search.proofs.DescentLaws.{visit_entry, turn_on}
use Rattle.represent.specs.Labelled.{occs, Over, under}
use Rattle.represent.specs.Image.{NodeIs}
use Rattle.represent.specs.Rep.{Stretch, numbers, Nodes, Rep}
use Rattle.represent.specs.Promises.{RulesAbove, path_steps}
use Rattle.represent.proofs.LabelLaws.{occ_at, each_at, depth_relabel, over_at, leaf_at_under, depth_under}
use Rattle.represent.proofs.ImageLaws.{Shown}
use Rattle.represent.proofs.RepLaws.{rep_shown}

module _ {A : Type 0} where
  rest_drop : (t : Trie A) (k : Key) → rest t k ≡ drop (depth t k) k
  rest_drop (leaf x) k = refl
  rest_drop (fork l r) [] = rest_drop l [] ∙ drop-nil (depth l [])
  rest_drop (fork l r) (false ∷ k) = rest_drop l k
  rest_drop (fork l r) (true ∷ k) = rest_drop r k

  module _ (P : ℕ → Trie A → Type 0) where
    pub height_under : (b : Trie ℕ) (u : Trie A) (k : Key) → Over P b u → depth b k + height (under b u k) ≤ height u
    height_under (leaf n) u k h = omega arith
    height_under (fork l r) (leaf x) k h = absurd h
    height_under (fork l r) (fork ul ur) [] h = omega (arith, height_under l ul [] h.0)
    height_under (fork l r) (fork ul ur) (false ∷ k) h = omega (arith, height_under l ul k h.0)
    height_under (fork l r) (fork ul ur) (true ∷ k) h = omega (arith, height_under r ur k h.1)

    pub height_over : (b : Trie ℕ) (u : Trie A) → Over P b u → height b ≤ height u
    height_over (leaf n) u h = omega arith
    height_over (fork l r) (leaf x) h = absurd h
    height_over (fork l r) (fork ul ur) h = omega (arith, height_over l ul h.0, height_over r ur h.1)

pub height_relabel : {A B : Type 0} (g : A → B) (t : Trie A) → height (relabel g t) ≡ height t
height_relabel g (leaf x) = refl
height_relabel g (fork l r) = omega (arith, height_relabel g l, height_relabel g r)

-- the entry that a key takes after the bits that lead through b
pub entry_rest : (b : Trie ℕ) (W k H : ℕ) → depth b (bits W k) + H ≤ W → k < 2 ^ W
    → entry_number W k (depth b (bits W k)) H ≡ index H (rest b (bits W k))
entry_rest b W k H room low = entry_index W k (depth b (bits W k)) H room low ∙ ap (index H) (sym (rest_drop b (bits W k)))

set_last : {A : Type 0} (l : ℕ) (z a : A) (ys : List A) → set (replicate (suc l) z ++ ys) l a ≡ replicate l z ++ (a ∷ ys)
set_last zero z a ys = refl
set_last (suc l) z a ys = ap (λ xs. z ∷ xs) (set_last l z a ys)

module _ (f : Format) (s : List ℕ) (h : Head) (k : ℕ) where
  -- one turn, at a node that keeps its rule
  pub turn : (l n used H deep pointer : ℕ) (ys : List Step) → node_rule h s (node_start h n) (suc l) ≡ true → H ≡ depth_word s (node_start h n)
      → used + H ≤ width f
      → entry_of s (node_start h n) (entry_number (width f) k used H) ≡ (deep, pointer)
      → descend f s h k (suc l) n used (replicate (suc l) no_step ++ ys)
      ≡ descend f s h k l pointer (used + deep)
      (replicate l no_step ++ (record { node = n; entry = entry_number (width f) k used H; depth = deep; used = used } ∷ ys))
  unfolding step_taken
  turn l n used H deep pointer ys rule e room at =
      let step : Step = record { node = n; entry = entry_number (width f) k used H; depth = deep; used = used } in
      let v = visit_entry f s h k (suc l) n used H (entry_number (width f) k used H) deep pointer rule e room refl
      (sym (ap (λ x. x.0) at)) (sym (ap (λ x. x.1) at)) in
      sym (turn_on f s h k (suc l) n used (replicate (suc l) no_step ++ ys) _ v (omega arith) _ refl refl)
      ∙ ap (λ x. descend f s h k x pointer (used + deep) (set (replicate (suc l) no_step ++ ys) x step)) (suc-sub-suc l 0 ∙ sub-zero l)
      ∙ ap (descend f s h k l pointer (used + deep)) (set_last l no_step step ys)

-- at most as many levels as the height, and one
above_length : (n θ : ℕ) (t : Shape) → 1 ≤ θ → length (levels_above n θ t) ≤ height t
above_length zero θ t h = omega arith
above_length (suc n) θ (leaf x) h = omega arith
above_length (suc n) θ (fork l r) h = omega (arith, above_length n θ (cut θ (fork l r)) h, height_cut θ (fork l r))

pub tower_length : (θ : ℕ) (t : Shape) → 1 ≤ θ → length (tower θ t) ≤ max 1 (height t)
unfolding tower
tower_length θ t h = omega (arith, above_length (height t) θ (cut θ t) h, height_cut θ t)

module _ (f : Format) (s : List ℕ) (b0 : Trie Stretch) (bs : List (Trie ℕ)) (r : Rep f s b0 bs) where
  abbrev h : Head
  h = head_of s

  rep_levels : height b0 ≤ width f → length bs ≤ 32
  rep_levels deep =
      omega (
        arith,
        sym (length-map bs shape) ∙ ap length r.directory.levels_are,
        tower_length h.theta (shape (numbers b0)) (sizes_limits _ _ _ _ r.sized.sizes).theta_low,
        height_shape (numbers b0),
        height_relabel (λ (x : Stretch). x.0) b0,
        width_within f,
      )

  module _ (k : ℕ) (low : k < 2 ^ width f) where
    abbrev key : Key
    key = bits (width f) k

    abbrev Shows : ℕ → ℕ → Trie ℕ → Type 0
    Shows level n v = NodeIs h.theta (node_at s h n) level v

    -- the key's node of one level, whose tries are b over u
    module _ (l : ℕ) (b u : Trie ℕ) (over : Over (Shows (suc l)) b u) (o : 1 ≤ occs (leaf_at b key) bs) (tall : height u ≤ width f) where
      pub own_shown : Shown s (node_start h (leaf_at b key)) h.theta (suc l) (under b u key)
      own_shown = rep_shown f s b0 bs r (leaf_at b key) (suc l) (under b u key) o (over_at (Shows (suc l)) b u key over)

      pub own_room : depth b key + height (under b u key) ≤ width f
      own_room = omega (arith, height_under (Shows (suc l)) b u key over)

      pub own_entry : entry_of s (node_start h (leaf_at b key)) (entry_number (width f) k (depth b key) (height (under b u key)))
          ≡ (depth u key - depth b key, leaf_at u key)
      own_entry =
          let v : Trie ℕ = under b u key in
          let e : depth v (rest b key) ≡ depth u key - depth b key = omega (arith, depth_under (Shows (suc l)) b u key over) in
          own_shown.entry _ (entry_below (width f) k (depth b key) (height v))
          ∙ ap (λ i. get_or (flatten (height v) v 0) i (0, 0)) (entry_rest b (width f) k (height v) own_room low)
          ∙ at_key (height v) v (rest b key) (0, 0) (depth_le_height v (rest b key))
          ∙ ap₂ (λ d p. (d, p)) e (leaf_at_under (Shows (suc l)) b u key over)

    reached : (l : ℕ) (u : Trie ℕ) (cs : List (Trie ℕ)) → Nodes h.theta (node_at s h) h.root h.levels l u cs → RulesAbove h s l cs
        → ((n : ℕ) → occs n cs ≤ occs n bs) → height u ≤ width f → l + length cs ≤ 32
        → descend f s h k h.levels h.root 0 no_steps
        ≡ descend f s h k l (leaf_at u key) (depth u key)
        (replicate l no_step ++ (path_steps (width f) k u cs ++ replicate (32 - (l + length cs)) no_step))
    unfolding no_steps
    reached l u [] nodes pass part tall room =
        let e : 32 ≡ l + (32 - (l + 0)) = omega arith in
        ap₂ (λ level n. descend f s h k level h.root 0 (replicate n no_step)) nodes.1 e
        ∙ ap (descend f s h k l h.root 0) (sym (replicate-append-replicate l (32 - (l + 0)) no_step))
        ∙ ap (λ t. descend f s h k l (leaf_at t key) (depth t key) (replicate l no_step ++ replicate (32 - (l + 0)) no_step)) (sym nodes.0)
    reached l u (b ∷ cs) nodes pass part tall room =
        let o : 1 ≤ occs (leaf_at b key) bs = omega (arith, occ_at b key, part (leaf_at b key)) in
        let sum : depth b key + (depth u key - depth b key) ≡ depth u key = omega (arith, depth_under (Shows (suc l)) b u key nodes.0) in
        let left : 32 - (suc l + length cs) ≡ 32 - (l + suc (length cs)) = omega arith in
        let low : height b ≤ width f = omega (arith, height_over (Shows (suc l)) b u nodes.0) in
        reached (suc l) b cs nodes.1 pass.1 (λ n. omega (arith, part n)) low (omega arith)
        ∙ turn f s h k l (leaf_at b key) (depth b key) (height (under b u key)) (depth u key - depth b key) (leaf_at u key) _
        (each_at (λ n. node_rule h s (node_start h n) (suc l) ≡ true) b key pass.0) (sym (own_shown l b u nodes.0 o tall).depth)
        (own_room l b u nodes.0 o tall) (own_entry l b u nodes.0 o tall)
        ∙ ap₂ (λ d n. descend f s h k l (leaf_at u key) d (replicate l no_step ++ (path_steps (width f) k u (b ∷ cs) ++ replicate n no_step)))
        sum left

    pub descent_is : RulesAbove h s 0 bs → height b0 ≤ width f
        → descent f s h k
        ≡ record {
          ok = true;
          page = leaf_at (numbers b0) key;
          used = depth b0 key;
          steps = path_steps (width f) k (numbers b0) bs ++ replicate (32 - length bs) no_step;
        }
    unfolding descent descend
    descent_is pass deep =
        let tall : height (numbers b0) ≤ width f = omega (arith, height_relabel (λ (x : Stretch). x.0) b0) in
        reached 0 (numbers b0) bs r.directory.nodes pass (λ n. omega arith) tall (omega (arith, rep_levels deep))
        ∙ ap₂ (λ d n. record {
          ok = true;
          page = leaf_at (numbers b0) key;
          used = d;
          steps = path_steps (width f) k (numbers b0) bs ++ replicate (32 - n) no_step;
        }) (depth_relabel (λ (x : Stretch). x.0) b0 key) (zero-add (length bs))
