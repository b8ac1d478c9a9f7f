-- The steps of an insertion on a store's words, and what they do to a represented store. Document 01, "Descent and splits". Pages are
-- written as words; nodes by the operations of a round, over the words.
--   nodes_end h         == the number of the first word behind the node blocks
--   Others, others s   == all of a store but its node blocks, root, levels, nodes taken and released
--   Ok f θ s           == the store's sizes are in order, θ is its own, and so are the node blocks that may be taken
--   word_store f θ      == a store's words as a store of nodes
-- At the place of a key in the stretches b0:
--   stretch_at f b0 key == the stretch that holds it
--   left_at, prefix_at   == how many bits are left there, and what the others are
--   next_bit            == the number of the first that is left
--   half_at b f b0 key  == those of its records whose next bit is b
--   replaced_at f b0 key c == b0 with the stretches c there
--   Fit f C w q rs     == the records rs may be written into a page, at a place with w bits left and the prefix q
--   put_items f C s p rs  == the words s with the records rs in page block p, where C is the capacity
--   SameSizes h h'     == the two heads have the same sizes
--   Stepped f s s' b0 bs == s' stands for b0 and bs, and has the sizes of s and its words beyond them
--   Roomy f I s b0 bs key == s stands for b0 and bs, the key's place has a bit left, and there are node blocks for the climb
--   Turned r c         == the round r makes the stretches c of the stretch at the key
--   UpperKeeps, LowerKeeps, BothKeep == a full page halved: no record has the bit clear; none has it set; there are both
--   PutKeeps, TakeKeeps == a page written anew; a page taken for a null entry
use Rattle.std.specs.Prelude.{◌≡◌, Bool, true, false, List, [], ◌∷◌, ℕ, suc, ◌+◌, ◌-◌, ◌*◌, ◌/◌, ◌^◌, ◌≤◌, ◌<◌, length, drop, replicate}
use Rattle.lists.specs.Bits.{bits}
use Rattle.lists.specs.Lists.{All}
use Rattle.lists.specs.Keyed.{Sorted, Prefix}
use Rattle.tree.specs.Trie.{Trie, leaf, Key, leaf_at, depth, graft, pair}
use Rattle.tree.specs.Build.{side}
use Rattle.tree.specs.Carry.{locals, bump_cost}
use Rattle.store.specs.declared.Format.{Format}
use Rattle.store.specs.declared.Head.{Head}
use Rattle.store.specs.declared.Item.{Item}
use Rattle.store.specs.Format.{width}
use Rattle.store.specs.Head.{head_of, released_of, nodes_left, pages_left, node_words}
use Rattle.store.specs.Released.{released_node, node_next, nodes_to_come, next_node, node_taken, next_page, page_taken}
use Rattle.page.specs.Page.{lawful_item}
use Rattle.represent.specs.Image.{page_image}
use Rattle.page.specs.Schema.{key_of}
use Rattle.represent.specs.Rep.{Stretch, numbers, Rep, size_of, Sized}
use Rattle.split.specs.Round.{NodeOps, NodeLaws, StoreOps, place_at, path_of, Climbed, round, aim_at, carried}
use Rattle.split.specs.Supply.{Supplied}
use Rattle.split.specs.Frame.{node_of, put_node, put_page, put_head}

-- all but the node blocks and five words of the head
pub record Others : Type 0 where
  pub theta : ℕ
  pub capacity : ℕ
  pub node_blocks : ℕ
  pub page_blocks : ℕ
  pub pages_taken : ℕ
  -- the last released page, and how many are released
  pub page : ℕ
  pub pages : ℕ
  -- the words behind the node blocks
  pub behind : List ℕ

-- the number of the first word behind the node blocks
abbrev pub nodes_end : Head → ℕ
nodes_end h = 16 + h.node_blocks * node_words h.theta

abbrev pub others : List ℕ → Others
others s =
    record {
      theta = (head_of s).theta;
      capacity = (head_of s).capacity;
      node_blocks = (head_of s).node_blocks;
      page_blocks = (head_of s).page_blocks;
      pages_taken = (head_of s).pages_taken;
      page = (released_of s).page;
      pages = (released_of s).pages;
      behind = drop (nodes_end (head_of s)) s;
    }

pub record Ok (f : Format) (θ : ℕ) (s : List ℕ) : Type 0 where
  pub theta : (head_of s).theta ≡ θ
  pub sized : Sized f s
  pub supplied : Supplied (node_of s) (released_node θ) (replicate (node_words θ) 0) (node_next s) (released_of s).nodes (released_of s).node
      (head_of s).nodes_taken (head_of s).node_blocks

abbrev pub word_store : Format → ℕ → StoreOps
word_store f θ =
    record {
      S = List ℕ;
      Ok = Ok f θ;
      node = node_of;
      root = λ s. (head_of s).root;
      levels = λ s. (head_of s).levels;
      cap = λ s. (head_of s).node_blocks;
      free = nodes_to_come;
      R = Others;
      others = others;
      put = put_node;
      head = put_head;
      next = next_node;
      take = node_taken;
    }

abbrev pub stretch_at : Format → Trie Stretch → ℕ → Stretch
stretch_at f b0 key = leaf_at b0 (bits (width f) key)

abbrev pub left_at : Format → Trie Stretch → ℕ → ℕ
left_at f b0 key = width f - depth b0 (bits (width f) key)

abbrev pub prefix_at : Format → Trie Stretch → ℕ → ℕ
prefix_at f b0 key = key / 2 ^ left_at f b0 key

abbrev pub next_bit : Format → Trie Stretch → ℕ → ℕ
next_bit f b0 key = width f - suc (depth b0 (bits (width f) key))

abbrev pub half_at : Bool → Format → Trie Stretch → ℕ → List Item
half_at b f b0 key = side key_of b (next_bit f b0 key) (stretch_at f b0 key).1

abbrev pub replaced_at : Format → Trie Stretch → ℕ → Trie Stretch → Trie Stretch
replaced_at f b0 key c = graft b0 (bits (width f) key) c

pub record Fit (f : Format) (C w q : ℕ) (rs : List Item) : Type 0 where
  pub some : 1 ≤ length rs
  pub fits : length rs ≤ C
  pub lawful : All (λ it. lawful_item f it ≡ true) rs
  pub sorted : Sorted key_of rs
  pub prefix : Prefix key_of w q rs

abbrev pub put_items : Format → ℕ → List ℕ → ℕ → List Item → List ℕ
put_items f C s p rs = put_page f s p (page_image f C rs)

pub record SameSizes (h h' : Head) : Type 0 where
  pub theta : h'.theta ≡ h.theta
  pub capacity : h'.capacity ≡ h.capacity
  pub nodes : h'.node_blocks ≡ h.node_blocks
  pub pages : h'.page_blocks ≡ h.page_blocks

pub record Stepped (f : Format) (s s' : List ℕ) (b0 : Trie Stretch) (bs : List (Trie ℕ)) : Type 0 where
  pub rep : Rep f s' b0 bs
  pub sizes_same : SameSizes (head_of s) (head_of s')
  pub beyond : drop (size_of f s) s' ≡ drop (size_of f s) s

module _ (f : Format) (I : NodeOps) (s : List ℕ) (b0 : Trie Stretch) (bs : List (Trie ℕ)) (key : ℕ) where
  abbrev k : Key
  k = bits (width f) key

  abbrev own : Stretch
  own = stretch_at f b0 key

  -- the round at the key, on the words t
  abbrev rounded : List ℕ → ℕ → ℕ → Climbed (List ℕ)
  rounded t a c = round I (word_store f (head_of s).theta) (head_of s).theta k t (path_of (numbers b0) bs k) a c

  abbrev levels_after : List (Trie ℕ)
  levels_after = carried (head_of s).theta (nodes_to_come s) (numbers b0) bs k

  -- the place has a bit left, and there are node blocks for the climb
  pub record Roomy : Type 0 where
    pub laws : NodeLaws (head_of s).theta I
    pub rep : Rep f s b0 bs
    pub narrow : key < 2 ^ width f
    pub deep : depth b0 k < width f
    pub room : bump_cost (head_of s).theta (locals (numbers b0) bs k) ≤ nodes_left s

  -- after the round r the stretch at the key is the stretches c, and the path handed back is the key's
  pub record Turned (r : Climbed (List ℕ)) (c : Trie Stretch) : Type 0 where
    pub stepped : Stepped f s r.store (replaced_at f b0 key c) levels_after
    pub way : r.path ≡ path_of (numbers (replaced_at f b0 key c)) levels_after k

  -- "At a full page: halve it on the next bit and try again. The zero half keeps the page, and the other takes a new one. An empty half
  -- becomes null, and the other half keeps the page."
  abbrev pub UpperKeeps : Type 0
  UpperKeeps = Roomy → half_at false f b0 key ≡ [] → Turned (rounded s 0 own.0) (pair (0, []) own)

  abbrev pub LowerKeeps : Type 0
  LowerKeeps = Roomy → half_at true f b0 key ≡ [] → Turned (rounded s own.0 0) (pair own (0, []))

  abbrev pub BothKeep : Type 0
  BothKeep =
      let C : ℕ = (head_of s).capacity in
      let m : ℕ = next_page s in
      let low : List Item = half_at false f b0 key in
      let high : List Item = half_at true f b0 key in
      Roomy → 1 ≤ pages_left s → 1 ≤ length low → 1 ≤ length high
      → Turned (rounded (put_items f C (put_items f C (page_taken f s) own.0 low) m high) own.0 m) (pair (own.0, low) (m, high))

-- "At a page below C: put the record in order."
module _ (f : Format) (s : List ℕ) (b0 : Trie Stretch) (bs : List (Trie ℕ)) (key : ℕ) where
  abbrev pub PutKeeps : Type 0
  PutKeeps =
      let n : ℕ = (stretch_at f b0 key).0 in
      (rs : List Item) → Rep f s b0 bs → key < 2 ^ width f → 1 ≤ n → Fit f (head_of s).capacity (left_at f b0 key) (prefix_at f b0 key) rs
      → Stepped f s (put_items f (head_of s).capacity s n rs) (replaced_at f b0 key (leaf (n, rs))) bs

-- "Enter, at a null entry: take a page for the whole run."
module _ (f : Format) (I : NodeOps) (s : List ℕ) (b0 : Trie Stretch) (b : Trie ℕ) (bs : List (Trie ℕ)) (key : ℕ) where
  abbrev pub TakeKeeps : Type 0
  TakeKeeps =
      let m : ℕ = next_page s in
      (rs : List Item) → NodeLaws (head_of s).theta I → Rep f s b0 (b ∷ bs) → key < 2 ^ width f → (stretch_at f b0 key).0 ≡ 0
      → 1 ≤ pages_left s
      → Fit f (head_of s).capacity (left_at f b0 key) (prefix_at f b0 key) rs
      → Stepped f s
      (aim_at I (word_store f (head_of s).theta) (put_items f (head_of s).capacity (page_taken f s) m rs)
      (place_at (numbers b0) b (bits (width f) key)) m)
      (replaced_at f b0 key (leaf (m, rs))) (b ∷ bs)
