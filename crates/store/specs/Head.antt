-- The head of a store and where its blocks stand. Document 01, "The store".
--   word s i           == word number i of the store, counted from 0; 0 past its end
--   zeros s a n        == the n words from number a on are 0
--   head_of s           == the first eight words
--   node_words θ        == the words of a node block
--   page_words f C      == the words of a page block
--   size f θ C N P     == the words of a store
--   node_start h n      == the first word of node block n
--   page_start f h p    == the first word of page block p
--   node_at s h n       == the words of node block n
--   page_at f s h p     == the words of page block p
--   lawful_sizes θ C N P == θ, C, N and P within their limits
--   spare_ok s          == the spare words of the head are zeros
--   released_of s       == the last released node and page, and how many are released of each
--   named name count taken == the name of a chain in the head is a taken number, or 0 just when its count is 0
--   lawful_released h r == the names and counts of released blocks within their limits
--   nodes_in_use, pages_in_use, nodes_left, pages_left s == node and page blocks in use, and those that remain, released or unused
--   InUse h n          == n is the number of a taken node
--   head_rule f s       == the head rule
--   Under f s h        == h is the head of the store s, which keeps the head rule
--   largest_theta, largest_capacity, largest_blocks == document 01's limits
--   lawful_counts f h   == the counts, the root and the levels of a head within their limits
use Rattle.std.specs.Prelude.{◌≡◌, Bool, true, ◌&&◌, List, ℕ, ◌+◌, ◌-◌, ◌*◌, ◌^◌, ◌≤◌, leb, ltb, eqb, length, get_or}
use Rattle.lists.specs.Lists.{every, part}
use Rattle.tree.specs.Build.{same}
use Rattle.tree.specs.Book.{level_bound}
use Rattle.store.specs.declared.Format.{Format}
use Rattle.store.specs.declared.Head.{Head}
use Rattle.store.specs.declared.Released.{Released}
use Rattle.store.specs.Format.{width, words}

abbrev pub word : List ℕ → ℕ → ℕ
word s i = get_or s i 0

unfoldable pub zeros : List ℕ → ℕ → ℕ → Bool
zeros s a n = every n (λ j. eqb (word s (a + j)) 0)

-- "Head, 16 words: θ, page capacity C, node blocks N and page blocks P, nodes taken, pages taken, root number, levels, eight zeros."
unfoldable pub head_of : List ℕ → Head
head_of s =
    record {
      theta = word s 0;
      capacity = word s 1;
      node_blocks = word s 2;
      page_blocks = word s 3;
      nodes_taken = word s 4;
      pages_taken = word s 5;
      root = word s 6;
      levels = word s 7;
    }

-- "N node blocks, each: depth H, level, back link, forward link, then 2^θ entries of two words"
unfoldable pub node_words : ℕ → ℕ
node_words θ = 4 + 2 * 2 ^ θ

-- "P page blocks, each: count, then C records"
unfoldable pub page_words : Format → ℕ → ℕ
page_words f C = 1 + words f * C

-- "Size = 16 + N × (4 + 2 × 2^θ) + P × (1 + 4 × C)."
unfoldable pub size : Format → ℕ → ℕ → ℕ → ℕ → ℕ
size f θ C N P = 16 + N * node_words θ + P * page_words f C

-- "Blocks count from 1"
unfoldable pub node_start : Head → ℕ → ℕ
node_start h n = 16 + (n - 1) * node_words h.theta

unfoldable pub page_start : Format → Head → ℕ → ℕ
page_start f h p = 16 + h.node_blocks * node_words h.theta + (p - 1) * page_words f h.capacity

unfoldable pub node_at : List ℕ → Head → ℕ → List ℕ
node_at s h n = part s (node_start h n) (node_words h.theta)

unfoldable pub page_at : Format → List ℕ → Head → ℕ → List ℕ
page_at f s h p = part s (page_start f h p) (page_words f h.capacity)

abbrev pub largest_theta : ℕ
largest_theta = 6

-- M-105: "The largest page capacity in any office is 24 .. That becomes the limit for C"
abbrev pub largest_capacity : ℕ
largest_capacity = 24

abbrev pub largest_blocks : ℕ
largest_blocks = 4096

-- "θ (1 to 6), page capacity C (1 to 64), node blocks N and page blocks P (1 to 4,096 each)"; of C 1 to 24 by M-105
unfoldable pub lawful_sizes : ℕ → ℕ → ℕ → ℕ → Bool
lawful_sizes θ C N P =
    leb 1 θ && leb θ largest_theta && leb 1 C && leb C largest_capacity && leb 1 N && leb N largest_blocks && leb 1 P && leb P largest_blocks

-- "nodes taken is 1 to N, pages taken 0 to P, root is a taken node, and levels is 1 to L."
unfoldable pub lawful_counts : Format → Head → Bool
lawful_counts f h =
    leb 1 h.nodes_taken && leb h.nodes_taken h.node_blocks && leb h.pages_taken h.page_blocks && leb 1 h.root
    && leb h.root h.nodes_taken
    && leb 1 h.levels && leb h.levels (level_bound (width f) h.theta h.capacity)

-- M-106: "Of the head's eight zeros the last four remain": the spare words of the head
abbrev pub spare_ok : List ℕ → Bool
spare_ok s = zeros s 12 4

-- M-106: "Head words 8 and 9 (counting from 0) name the last released node and page; words 10 and 11 count the released nodes and pages."
unfoldable pub released_of : List ℕ → Released
released_of s = record { node = word s 8; page = word s 9; nodes = word s 10; pages = word s 11 }

-- "each name a taken number, or 0 just when its count is 0"
unfoldable pub named : ℕ → ℕ → ℕ → Bool
named name count taken = leb name taken && same (eqb name 0) (eqb count 0)

-- "The head rule wants each count below nodes taken or at most pages taken"
unfoldable pub lawful_released : Head → Released → Bool
lawful_released h r =
    ltb r.nodes h.nodes_taken && leb r.pages h.pages_taken && named r.node r.nodes h.nodes_taken
    && named r.page r.pages h.pages_taken

-- Of N node blocks and P page blocks: those in use, which a reply counts, and those that remain, released and unused ones together.
abbrev pub nodes_in_use : List ℕ → ℕ
nodes_in_use s = (head_of s).nodes_taken - (released_of s).nodes

abbrev pub pages_in_use : List ℕ → ℕ
pages_in_use s = (head_of s).pages_taken - (released_of s).pages

abbrev pub nodes_left : List ℕ → ℕ
nodes_left s = (released_of s).nodes + ((head_of s).node_blocks - (head_of s).nodes_taken)

abbrev pub pages_left : List ℕ → ℕ
pages_left s = (released_of s).pages + ((head_of s).page_blocks - (head_of s).pages_taken)

-- n is the number of a taken node
pub record InUse (h : Head) (n : ℕ) : Type 0 where
  pub positive : 1 ≤ n
  pub within : n ≤ h.nodes_taken

-- "Head rule: the limits and the eight zeros above hold, the slice has the size, .." (of the zeros four, by M-106)
unfoldable pub head_rule : Format → List ℕ → Bool
head_rule f s =
    lawful_sizes (head_of s).theta (head_of s).capacity (head_of s).node_blocks (head_of s).page_blocks && spare_ok s
    && leb (size f (head_of s).theta (head_of s).capacity (head_of s).node_blocks (head_of s).page_blocks) (length s)
    && lawful_counts f (head_of s)
    && lawful_released (head_of s) (released_of s)

-- h is the head of s, which keeps the head rule
pub record Under (f : Format) (s : List ℕ) (h : Head) : Type 0 where
  pub rule : head_rule f s ≡ true
  pub head : h ≡ head_of s
