-- A store that holds a set keeps the head rule. The root is the one label of the last level, so a taken node; the levels are those of the
-- tree of the set, which are at most L. Its counts are the tree's, since each number taken labels one leaf.
use mathlib.Core.Path.{◌≡◌, refl, sym, ap, ◌∙◌}
use mathlib.Core.Bool.{true}
use mathlib.Core.List.{List, [], ◌∷◌}
use Prim.Native.Nat.{ℕ, zero, suc, ◌+◌, ◌≤◌, ◌<◌}
use native.Mathlib.Decide.{dec_lt}
use native.Mathlib.Omega.{arith}
use lib.Dec.{leb}
use lib.ListN.{length, length-map}
use lib.Pow.{pow_mono}
use borrow.Author.Tests.{le-leb}
use Rattle.tree.specs.Trie.{Trie, leaf, fork, shape, leaves}
use Rattle.tree.specs.Tower.{levels, all_leaves, nodes}
use Rattle.tree.specs.Build.{build, pages}
use Rattle.tree.specs.Book.{log2}
use Rattle.tree.proofs.LevelLaws.{pow_log_below}
use Rattle.tree.proofs.Promises.{levels_within}
use Rattle.store.specs.declared.Format.{Format}
use Rattle.store.specs.declared.Format.TheVariants.{Plots}
use Rattle.store.specs.declared.Head.{Head}
use Rattle.store.specs.declared.Item.{Item}
use Rattle.store.specs.Format.{width}
use Rattle.store.specs.Head.{head_of, released_of, head_rule, node_at}
use Rattle.store.specs.Released.{chain_of, after_all, node_next, page_next, released_nodes, released_pages}
use Rattle.store.proofs.HeadLaws.{Limits, sizes_limits, Counts, counts_are, Named, Chains, released_of_lem, rule_is}
use Rattle.represent.specs.Labelled.{occs, count}
use Rattle.page.specs.Schema.{key_of}
use Rattle.represent.specs.Rep.{Stretch, numbers, Nodes, Links, Sized, Rep, Holds}
use Rattle.represent.specs.Promises.{HeadPasses, LevelsAtMost, CountsAreTheTrees}
use Rattle.represent.proofs.LabelLaws.{label_low, label_high, ind_self}
use Rattle.tree.proofs.TrieLaws.{shape_relabel}
use Rattle.represent.proofs.Counting.{rep_nodes, rep_pages, all_nodes, all_pages, released_node_lem, released_page_lem}
use Rattle.represent.proofs.Keyed.{lawful_bounded}

pub width_low : (f : Format) → 7 ≤ width f
unfolding width
width_low Plots = omega arith

-- the end of the tower
module _ (θ : ℕ) (node : ℕ → List ℕ) (root top : ℕ) where
  root_label : (k : ℕ) (u : Trie ℕ) (bs : List (Trie ℕ)) → Nodes θ node root top k u bs → 1 ≤ occs root (u ∷ bs)
  root_label k u [] p = rw p.0 (omega (arith, ind_self root))
  root_label k u (b ∷ bs) p = omega (arith, root_label (suc k) b bs p.1)

  pub top_level : (k : ℕ) (u : Trie ℕ) (bs : List (Trie ℕ)) → Nodes θ node root top k u bs → top ≡ k + length bs
  top_level k u [] p = omega (arith, p.1)
  top_level k u (b ∷ bs) p = omega (arith, top_level (suc k) b bs p.1)

  -- there is a level
  pub root_in : (u : Trie ℕ) (bs : List (Trie ℕ)) → Nodes θ node root top 0 u bs → Links node bs → (1 ≤ occs root bs) × (1 ≤ top)
  root_in u [] p l = absurd l
  root_in u (b ∷ bs) p l = (root_label 1 b bs p.1, omega (arith, top_level 1 b bs p.1))

module _ (f : Format) (s : List ℕ) (S : List Item) (w : Holds f s S) where
  abbrev h : Head
  h = head_of s

  abbrev r : Rep f s w.b0 w.bs
  r = w.rep

  limits : Limits h.theta h.capacity h.node_blocks h.page_blocks
  limits = sizes_limits _ _ _ _ r.sized.sizes

  -- the shape of the levels' lowest is that of the tree
  shape_is : shape (numbers w.b0) ≡ shape (build key_of h.capacity (width f) S)
  shape_is = shape_relabel (λ x. x.0) w.b0 ∙ sym (shape_relabel (λ x. x.1) w.b0) ∙ ap shape w.tree

  levels_are_lem : h.levels ≡ levels h.theta (shape (build key_of h.capacity (width f) S))
  levels_are_lem =
      top_level h.theta (node_at s h) h.root h.levels 0 (numbers w.b0) w.bs r.directory.nodes
      ∙ omega (arith, length-map w.bs shape)
      ∙ ap length r.directory.levels_are
      ∙ ap (levels h.theta) shape_is

  -- 2^f ≤ C, which is at most the largest capacity
  log_low : log2 h.capacity < width f
  log_low =
      elim (dec_lt (log2 h.capacity) 7) [
        | yes l ↦ omega (arith, width_low f)
        | no l ↦
            absurd (omega (
              arith,
              limits.capacity,
              pow_log_below h.capacity h.capacity limits.capacity_low,
              pow_mono {i = 7} {j = log2 h.capacity} (omega arith),
            ))
      ]

  counts : Counts f h
  counts =
      let p = root_in h.theta (node_at s h) h.root h.levels (numbers w.b0) w.bs r.directory.nodes r.directory.links in
      let low : 1 ≤ h.root = label_low w.bs h.root r.directory.positive p.0 in
      let high : h.root ≤ h.nodes_taken =
      label_high h.nodes_taken (λ n. occs n w.bs + count n (released_nodes s)) h.root r.directory.one_for_one.none
      (omega (arith, p.0)) in
      record {
        taken_low = omega arith;
        taken = r.nodes_fit;
        filled = r.pages_fit;
        root_low = low;
        root = high;
        levels_low = p.1;
        levels = rw levels_are_lem
            (levels_within key_of (width f) h.theta h.capacity limits.theta_low limits.capacity_low log_low S w.sorted
            (lawful_bounded f S w.lawful));
      }

-- the name of a chain whose blocks are taken ones
chain_named : (m : ℕ) (next : ℕ → ℕ) (n name : ℕ) → after_all next n name ≡ 0
    → ((x : ℕ) → 1 ≤ count x (chain_of next n name) → (1 ≤ x) × (x ≤ m)) → Named name n m
unfolding chain_of after_all
chain_named m next zero name z h = record { within = omega (arith, z); some = λ l. absurd (omega arith); none = λ e. z }
chain_named m next (suc n) name z h =
    let i = h name (omega (arith, ind_self name)) in
    record { within = i.1; some = λ l. i.0; none = λ e. absurd (omega arith) }

leaves_low : {A : Type 0} (t : Trie A) → 1 ≤ leaves t
leaves_low (leaf x) = omega arith
leaves_low (fork l r) = omega (arith, leaves_low l)

-- what a represented store's head says of released blocks
pub rep_chains : (f : Format) (s : List ℕ) (b0 : Trie Stretch) (bs : List (Trie ℕ)) → Rep f s b0 bs → Chains (head_of s) (released_of s)
unfolding released_nodes released_pages
rep_chains f s b0 [] r = absurd r.directory.links
rep_chains f s b0 (b ∷ bs) r =
    record {
      nodes = omega (arith, all_nodes f s b0 (b ∷ bs) r, leaves_low (shape b));
      pages = omega (arith, all_pages f s b0 (b ∷ bs) r);
      node = chain_named _ (node_next s) _ _ r.released_nodes.ends (released_node_lem f s b0 (b ∷ bs) r);
      page = chain_named _ (page_next f s) _ _ r.released_pages.ends (released_page_lem f s b0 (b ∷ bs) r);
    }

yes_leb : {a b : ℕ} → a ≤ b → true ≡ leb a b
yes_leb {a} {b} h = sym (le-leb a b h)

pub sized_head : (f : Format) (s : List ℕ) → Sized f s → Counts f (head_of s) → Chains (head_of s) (released_of s) → head_rule f s ≡ true
sized_head f s ok c d =
    sym
    (rule_is f s (head_of s) true true true true true refl (sym ok.sizes) (sym ok.spare) (yes_leb ok.long)
    (counts_are f (head_of s) true true true true true true true (yes_leb c.taken_low) (yes_leb c.taken) (yes_leb c.filled)
    (yes_leb c.root_low) (yes_leb c.root) (yes_leb c.levels_low) (yes_leb c.levels)) (sym (released_of_lem (head_of s) (released_of s) d)))

pub head_passes : HeadPasses
head_passes f s S w = sized_head f s w.rep.sized (counts f s S w) (rep_chains f s w.b0 w.bs w.rep)

pub levels_at_most : LevelsAtMost
levels_at_most f s S w = (counts f s S w).levels

pub counts_are_the_trees : CountsAreTheTrees
counts_are_the_trees f s S w = (
  levels_are_lem f s S w,
  rep_nodes f s w.b0 w.bs w.rep
      ∙ ap all_leaves w.rep.directory.levels_are
      ∙ ap (nodes (head_of s).theta) (shape_is f s S w),
  rep_pages f s w.b0 w.bs w.rep ∙ ap pages w.tree,
)
