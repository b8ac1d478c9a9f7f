-- Two stores compared as trees, block numbers apart: their nodes are paired from the roots down, then each pair is compared.
--   node_word x a i == word i of node a
--   entries_of x a  == how many entries a node has: 2^H
--   depth_at x a j, pointer_at x a j == entry j of node a
--   Paired, both t q == the second store's node for each of the first, and the nodes to visit, their count first
--   paired p a b   == the nodes a and b paired, unless a has a twin
--   paired_from x y a b p j n == what n entries of two nodes point to, from entry j on
--   paired_below x y p a == what node a and its twin point to, if that is nodes
--   paired_next x y p i n == the same for n nodes of the queue, from place i on
--   paired_all x y p == the nodes of two stores, from the roots down
--   same_page x y p q == page p of x and page q of y have the same words
--   twin twins p q   == node q is the twin of node p, or both are null
--   same_pointer x y twins level p q == two pointers of a level lead to the same: pages at level 1, nodes above
--   same_link x y twins a b i == the links in word i of two nodes lead to twins
--   same_entries x y twins a b == the entries of two nodes are the same
--   same_node x y twins a == node a is the same as its twin
--   apart_from twins seen a n == of n nodes from a + 1 on, no twin is that of another, or seen
--   same_head x y       == two heads are the same but for the root
--   same_tree x y   == two stores hold the same tree
use Rattle.std.specs.Prelude.{Bool, true, false, not, ◌&&◌, ◌||◌, List, ℕ, zero, suc, ◌+◌, ◌-◌, ◌*◌, ◌%◌, ◌^◌, min, eqb, ltb, set, replicate}
use Rattle.lists.specs.Lists.{every}
use Rattle.store.specs.Head.{word}
use Rattle.raw.specs.Words.{alike}
use Rattle.raw.specs.Steps.{steps}
use Rattle.raw.specs.Blocks.{node_block, page_size, page_block}

abbrev pub node_word : List ℕ → ℕ → ℕ → ℕ
node_word x a i = word x (node_block x a + i)

abbrev pub entries_of : List ℕ → ℕ → ℕ
entries_of x a = 2 ^ (node_word x a 0 % 7)

abbrev pub depth_at : List ℕ → ℕ → ℕ → ℕ
depth_at x a j = word x (node_block x a + 4 + 2 * j)

abbrev pub pointer_at : List ℕ → ℕ → ℕ → ℕ
pointer_at x a j = word x (node_block x a + 5 + 2 * j)

pub record Paired : Type 0 where
  pub twins : List ℕ
  pub queue : List ℕ

abbrev pub both : List ℕ → List ℕ → Paired
both t q = record { twins = t; queue = q }

unfoldable pub paired : Paired → ℕ → ℕ → Paired
paired p a b =
    let n = min (word p.queue 0 + 1) (2 ^ 32 - 1) in
    elim (eqb (word p.twins a) 0) [
      | true ↦ both (set p.twins a b) (set (set p.queue n a) 0 n)
      | false ↦ p
    ]

unfoldable pub paired_from : List ℕ → List ℕ → ℕ → ℕ → Paired → ℕ → ℕ → Paired
paired_from x y a b = steps (λ p j. paired p (pointer_at x a j) (pointer_at y b j))

unfoldable pub paired_below : List ℕ → List ℕ → Paired → ℕ → Paired
paired_below x y p a =
    elim (ltb 1 (node_word x a 1)) [ true ↦ paired_from x y a (word p.twins a) p 0 (entries_of x a) | false ↦ p ]

unfoldable pub paired_next : List ℕ → List ℕ → Paired → ℕ → ℕ → Paired
paired_next x y = steps (λ p i. paired_below x y p (word p.queue (i + 1)))

unfoldable pub paired_all : List ℕ → List ℕ → Paired → Paired
paired_all x y p = paired_next x y (paired p (word x 6) (word y 6)) 0 (word x 4)

unfoldable pub same_page : List ℕ → List ℕ → ℕ → ℕ → Bool
same_page x y p q = alike x (page_block x p) y (page_block y q) (page_size x)

unfoldable pub twin : List ℕ → ℕ → ℕ → Bool
twin twins p q = elim (eqb p 0 || eqb q 0) [ true ↦ eqb p q | false ↦ eqb (word twins p) q ]

unfoldable pub same_pointer : List ℕ → List ℕ → List ℕ → ℕ → ℕ → ℕ → Bool
same_pointer x y twins level p q =
    elim (eqb level 1 && not (eqb p 0) && not (eqb q 0)) [ true ↦ same_page x y p q | false ↦ twin twins p q ]

abbrev pub same_link : List ℕ → List ℕ → List ℕ → ℕ → ℕ → ℕ → Bool
same_link x y twins a b i = twin twins (node_word x a i) (node_word y b i)

unfoldable pub same_entries : List ℕ → List ℕ → List ℕ → ℕ → ℕ → Bool
same_entries x y twins a b =
    every (entries_of x a)
    (λ j. eqb (depth_at x a j) (depth_at y b j) && same_pointer x y twins (node_word x a 1) (pointer_at x a j) (pointer_at y b j))

unfoldable pub same_node : List ℕ → List ℕ → List ℕ → ℕ → Bool
same_node x y twins a =
    let b = word twins a in
    not (eqb b 0) && eqb (node_word x a 1) (node_word y b 1) && eqb (node_word x a 0) (node_word y b 0) && same_link x y twins a b 2
    && same_link x y twins a b 3 && same_entries x y twins a b

unfoldable pub apart_from : List ℕ → List ℕ → ℕ → ℕ → Bool
apart_from twins seen a zero = true
apart_from twins seen a (suc n) =
    let b = word twins (a + 1) in
    elim (eqb (word seen b) 0) [ true ↦ apart_from twins (set seen b 1) (a + 1) n | false ↦ false ]

unfoldable pub same_head : List ℕ → List ℕ → Bool
same_head x y = alike x 0 y 0 6 && eqb (word x 7) (word y 7)

-- a store has at most 4,096 nodes here
unfoldable pub same_tree : List ℕ → List ℕ → Bool
same_tree x y =
    let none : List ℕ = replicate 4097 0 in
    let p = paired_all x y (both none none) in
    apart_from p.twins none 0 (word x 4) && same_head x y && every (word x 4) (λ a. same_node x y p.twins (a + 1))
