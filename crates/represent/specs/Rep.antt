-- What a store's words stand for. Document 01, "A store holds a tree, block numbers apart, when ..".
-- The tree is given by tries: b0 for the level-0 stretches, each leaf with its page's number (0 for null) and its records; bs for the
-- levels 1, 2, .., each leaf with its node's number.
--   Stretch           == a level-0 stretch: its page's number and its records
--   numbers b0, contents b0 == the page numbers, and the records, of b0
--   Nodes θ node root levels k u bs == the nodes of the levels above k: each shows what stands below it; u is level k, and root and
--                        levels end the tower
--   back_of, forward_of node n == the links of node n
--   Unlinked node n   == both are null
--   Links node bs     == the links of all nodes
--   Directory θ node root levels limit spare u bs == of the node blocks 1, .., limit each is one of the levels bs over u, or spare
--   Chained block form next many name == `many` released blocks are chained from `name` on, each with the words of its form
--   PageIs f s h x    == the page block of a level-0 stretch x
--   Lawful f s h x    == the stretch x is in order: its page block, at most C records, lawful and ascending
--   Keyed w q t       == every record stands in the stretch of its key; t is the stretch with the prefix q, which leaves w bits
--   Pages f s h b0    == the page blocks in use are those of b0; the other taken ones are released
--   size_of f s        == the words of a store of the sizes in its head
--   Sized f s         == the head's sizes are lawful, its four spare words are zero, and the store is long enough
--   Rep f s b0 bs     == the words s stand for the tries b0 and bs
--   Holds f s S       == the store s holds the tree of the ascending list S
use Rattle.std.specs.Prelude.{◌≡◌, true, List, [], ◌∷◌, map, ℕ, zero, suc, ◌+◌, ◌*◌, ◌≤◌, ◌<◌, length, replicate}
use Rattle.lists.specs.Lists.{All}
use Rattle.lists.specs.Keyed.{Sorted, Prefix}
use Rattle.tree.specs.Trie.{Trie, leaf, fork, shape, labels, relabel}
use Rattle.tree.specs.Tower.{tower}
use Rattle.tree.specs.Build.{build}
use Rattle.store.specs.declared.Format.{Format}
use Rattle.store.specs.declared.Head.{Head}
use Rattle.store.specs.declared.Item.{Item}
use Rattle.store.specs.Format.{width}
use Rattle.store.specs.Head.{head_of, released_of, lawful_sizes, spare_ok, size, node_words, page_words, page_at, node_at}
use Rattle.store.specs.Released.{released_node, released_page, node_next, page_next, chain_of, after_all, released_nodes, released_pages}
use Rattle.node.specs.Node.{back_word, forward_word}
use Rattle.page.specs.Page.{lawful_item}
use Rattle.page.specs.Schema.{key_of}
use Rattle.represent.specs.Labelled.{Each, occ, occs, count, OneForOne, Over, Linked}
use Rattle.represent.specs.Image.{page_image, NodeIs}

-- a level-0 stretch: its page's number and its records
abbrev pub Stretch : Type 0
Stretch = ℕ × List Item

abbrev pub numbers : Trie Stretch → Trie ℕ
numbers = relabel (λ x. x.0)

abbrev pub contents : Trie Stretch → Trie (List Item)
contents = relabel (λ x. x.1)

-- node n is the block `node n`
module _ (node : ℕ → List ℕ) where
  abbrev pub back_of : ℕ → ℕ
  back_of n = back_word (node n) 0

  abbrev pub forward_of : ℕ → ℕ
  forward_of n = forward_word (node n) 0

  pub record Unlinked (n : ℕ) : Type 0 where
    pub no_back : back_of n ≡ 0
    pub no_forward : forward_of n ≡ 0

  -- "level-1 links in key order"; "others have links 0"
  abbrev pub Links : List (Trie ℕ) → Type 0
  Links [] = ⊥
  Links (b ∷ bs) = Linked back_of forward_of 0 (labels b) × ((n : ℕ) → 1 ≤ occs n bs → Unlinked n)

module _ (θ : ℕ) (node : ℕ → List ℕ) where
  -- "its levels are the tree's", "the root for all keys; each node with its level, its largest h as H, its runs in key order, each with its
  -- h and pointing to its stretch's block"
  abbrev pub Nodes : ℕ → ℕ → ℕ → Trie ℕ → List (Trie ℕ) → Type 0
  Nodes root levels k u [] = (u ≡ leaf root) × (levels ≡ k)
  Nodes root levels k u (b ∷ bs) = Over (λ n v. NodeIs θ (node n) (suc k) v) b u × Nodes root levels (suc k) b bs

  pub record Directory (root levels limit : ℕ) (spare : ℕ → ℕ) (u : Trie ℕ) (bs : List (Trie ℕ)) : Type 0 where
    pub nodes : Nodes root levels 0 u bs
    pub links : Links node bs
    -- "its blocks in use, here all taken ones, are the tree's nodes and pages, one for one"; M-113: "every remaining block is unused or
    -- released exactly once"
    pub one_for_one : OneForOne limit (λ n. occs n bs + spare n)
    pub positive : occs 0 bs ≡ 0
    pub spare_positive : spare 0 ≡ 0
    -- the levels are those of "the tree of a set"
    pub levels_are : map shape bs ≡ tower θ (shape u)

-- M-106: "Head words 8 and 9 .. name the last released node and page; words 10 and 11 count the released nodes and pages", each released
-- block has "the next one" in it, "or 0 just for the last counted"; "other words are zero"
pub record Chained (block : ℕ → List ℕ) (form : ℕ → List ℕ) (next : ℕ → ℕ) (many name : ℕ) : Type 0 where
  pub each : All (λ n. block n ≡ form (next n)) (chain_of next many name)
  pub ends : after_all next many name ≡ 0

-- "a stretch is all keys with one prefix"
abbrev pub Keyed : ℕ → ℕ → Trie Stretch → Type 0
Keyed w q (leaf x) = Prefix key_of w q x.1
Keyed zero q (fork l r) = ⊥
Keyed (suc w) q (fork l r) = Keyed w (2 * q) l × Keyed w (2 * q + 1) r

module _ (f : Format) (s : List ℕ) (h : Head) where
  -- "pointing to its stretch's block (null for an empty level-0 stretch)", "each page with its records"
  abbrev pub PageIs : Stretch → Type 0
  PageIs (p, []) = p ≡ 0
  PageIs (p, r ∷ rs) = (1 ≤ p) × (page_at f s h p ≡ page_image f h.capacity (r ∷ rs))

  -- "A visited page has 1 to C lawful records, ascending"
  pub record Lawful (x : Stretch) : Type 0 where
    pub page : PageIs x
    pub fits : length x.1 ≤ h.capacity
    pub lawful : All (λ it. lawful_item f it ≡ true) x.1
    pub sorted : Sorted key_of x.1

  pub record Pages (b0 : Trie Stretch) : Type 0 where
    pub each : Each Lawful b0
    pub keyed : Keyed (width f) 0 b0
    pub one_for_one : OneForOne h.pages_taken (λ p. occ p (numbers b0) + count p (released_pages f s))
    pub spare_positive : count 0 (released_pages f s) ≡ 0

abbrev pub size_of : Format → List ℕ → ℕ
size_of f s = size f (head_of s).theta (head_of s).capacity (head_of s).node_blocks (head_of s).page_blocks

-- "θ (1 to 6), page capacity C (1 to 64; M-105: 1 to 24), node blocks N and page blocks P (1 to 4,096 each)", "eight zeros" (of them four
-- by M-106), "the slice has the size"
pub record Sized (f : Format) (s : List ℕ) : Type 0 where
  pub sizes : lawful_sizes (head_of s).theta (head_of s).capacity (head_of s).node_blocks (head_of s).page_blocks ≡ true
  pub spare : spare_ok s ≡ true
  pub long : size_of f s ≤ length s

module _ (f : Format) (s : List ℕ) where
  pub record Rep (b0 : Trie Stretch) (bs : List (Trie ℕ)) : Type 0 where
    pub sized : Sized f s
    pub nodes_fit : (head_of s).nodes_taken ≤ (head_of s).node_blocks
    pub pages_fit : (head_of s).pages_taken ≤ (head_of s).page_blocks
    pub directory : Directory (head_of s).theta (node_at s (head_of s)) (head_of s).root (head_of s).levels (head_of s).nodes_taken
        (λ n. count n (released_nodes s)) (numbers b0) bs
    pub pages : Pages f s (head_of s) b0
    pub released_nodes : Chained (node_at s (head_of s)) (released_node (head_of s).theta) (node_next s) (released_of s).nodes
        (released_of s).node
    pub released_pages : Chained (page_at f s (head_of s)) (released_page f (head_of s).capacity) (page_next f s) (released_of s).pages
        (released_of s).page
    -- "Words not in use are zero."
    pub free_nodes : (n : ℕ) → (head_of s).nodes_taken < n → n ≤ (head_of s).node_blocks
        → node_at s (head_of s) n ≡ replicate (node_words (head_of s).theta) 0
    pub free_pages : (p : ℕ) → (head_of s).pages_taken < p → p ≤ (head_of s).page_blocks
        → page_at f s (head_of s) p ≡ replicate (page_words f (head_of s).capacity) 0

  pub record Holds (S : List Item) : Type 0 where
    pub b0 : Trie Stretch
    pub bs : List (Trie ℕ)
    pub rep : Rep b0 bs
    -- "Each non-empty level-0 stretch is a page": the stretches are those of the tree of S
    pub tree : contents b0 ≡ build key_of (head_of s).capacity (width f) S
    pub sorted : Sorted key_of S
    pub lawful : All (λ it. lawful_item f it ≡ true) S
