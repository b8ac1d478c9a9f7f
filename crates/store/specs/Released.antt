-- Released blocks: their form, the chains of them, and how a call takes a block. Document 02, M-106.
--   released_node θ next, released_page f C next == the words of a released block
--   node_form s n, page_form f s p == a block has such words, whatever its next one
--   node_next s n, page_next f s p == the next one
--   chain_of next n name == the first n blocks of a chain from `name` on
--   after_all next n name == the block behind them
--   passed next n name  == the same n blocks, the last one first
--   member n xs         == n is one of the numbers xs
--   link_ok form next taken name seen left == the block `name` may be taken, where `left` are left behind it and `seen` are taken before
--   chain_ok form next taken n count name seen == the next n blocks of a chain with `count` left, from `name`, may be taken; `seen` are
--     taken before
--   nodes_ok s n, pages_ok f s n == so may the last n released nodes, or pages
--   released_nodes s, released_pages f s == the numbers of the released blocks, the last one first
--   up_from n m          == the n numbers behind m
--   nodes_to_come s, pages_to_come f s == the numbers of all blocks that may be taken, in the order in which they are taken
--   next_node s, next_page s == the number that a call takes next
--   node_taken s, page_taken f s == the head after it; the block itself is still as it was
use Rattle.std.specs.Prelude.{Bool, true, false, ◌&&◌, ◌||◌, not, List, [], ◌∷◌, ◌++◌, ℕ, zero, suc, ◌+◌, ◌-◌, eqb, set, replicate}
use Rattle.store.specs.declared.Format.{Format}
use Rattle.store.specs.Head.{word, zeros, head_of, released_of, named, node_words, page_words, node_start, page_start}

-- "a released node has level 0 and the next one in its third; other words are zero"
unfoldable pub released_node : ℕ → ℕ → List ℕ
released_node θ next = 0 ∷ 0 ∷ next ∷ replicate (node_words θ - 3) 0

-- "A released page has count 0 and the next one in its second word"
unfoldable pub released_page : Format → ℕ → ℕ → List ℕ
released_page f C next = 0 ∷ next ∷ replicate (page_words f C - 2) 0

unfoldable pub node_form : List ℕ → ℕ → Bool
node_form s n = zeros s (node_start (head_of s) n) 2 && zeros s (node_start (head_of s) n + 3) (node_words (head_of s).theta - 3)

unfoldable pub page_form : Format → List ℕ → ℕ → Bool
page_form f s p = zeros s (page_start f (head_of s) p) 1 && zeros s (page_start f (head_of s) p + 2) (page_words f (head_of s).capacity - 2)

abbrev pub node_next : List ℕ → ℕ → ℕ
node_next s n = word s (node_start (head_of s) n + 2)

abbrev pub page_next : Format → List ℕ → ℕ → ℕ
page_next f s p = word s (page_start f (head_of s) p + 1)

unfoldable pub chain_of : (ℕ → ℕ) → ℕ → ℕ → List ℕ
chain_of next zero name = []
chain_of next (suc n) name = name ∷ chain_of next n (next name)

unfoldable pub after_all : (ℕ → ℕ) → ℕ → ℕ → ℕ
after_all next zero name = name
after_all next (suc n) name = next (after_all next n name)

unfoldable pub passed : (ℕ → ℕ) → ℕ → ℕ → List ℕ
passed next zero name = []
passed next (suc n) name = after_all next n name ∷ passed next n name

unfoldable pub member : ℕ → List ℕ → Bool
member n [] = false
member n (x ∷ xs) = eqb n x || member n xs

-- "A released block that a call takes is checked for this form under 9, its next a taken number, or 0 just for the last counted"; "A block
-- that .. one enter [reaches] twice in the released chain, is damaged"
unfoldable pub link_ok : (ℕ → Bool) → (ℕ → ℕ) → ℕ → ℕ → List ℕ → ℕ → Bool
link_ok form next taken name seen left = form name && not (member name seen) && named (next name) left taken

unfoldable pub chain_ok : (ℕ → Bool) → (ℕ → ℕ) → ℕ → ℕ → ℕ → ℕ → List ℕ → Bool
chain_ok form next taken zero count name seen = true
chain_ok form next taken (suc n) zero name seen = true
chain_ok form next taken (suc n) (suc count) name seen =
    link_ok form next taken name seen count && chain_ok form next taken n count (next name) (name ∷ seen)

unfoldable pub nodes_ok : List ℕ → ℕ → Bool
nodes_ok s n = chain_ok (node_form s) (node_next s) (head_of s).nodes_taken n (released_of s).nodes (released_of s).node []

unfoldable pub pages_ok : Format → List ℕ → ℕ → Bool
pages_ok f s n = chain_ok (page_form f s) (page_next f s) (head_of s).pages_taken n (released_of s).pages (released_of s).page []

unfoldable pub released_nodes : List ℕ → List ℕ
released_nodes s = chain_of (node_next s) (released_of s).nodes (released_of s).node

unfoldable pub released_pages : Format → List ℕ → List ℕ
released_pages f s = chain_of (page_next f s) (released_of s).pages (released_of s).page

unfoldable pub up_from : ℕ → ℕ → List ℕ
up_from zero m = []
up_from (suc n) m = suc m ∷ up_from n (suc m)

-- "Enter takes the last released block before an unused one."
unfoldable pub nodes_to_come : List ℕ → List ℕ
nodes_to_come s = released_nodes s ++ up_from ((head_of s).node_blocks - (head_of s).nodes_taken) (head_of s).nodes_taken

unfoldable pub pages_to_come : Format → List ℕ → List ℕ
pages_to_come f s = released_pages f s ++ up_from ((head_of s).page_blocks - (head_of s).pages_taken) (head_of s).pages_taken

unfoldable pub next_node : List ℕ → ℕ
next_node s = elim (eqb (released_of s).nodes 0) [ true ↦ suc (head_of s).nodes_taken | false ↦ (released_of s).node ]

unfoldable pub node_taken : List ℕ → List ℕ
node_taken s =
    elim (eqb (released_of s).nodes 0) [
      | true ↦ set s 4 (suc (head_of s).nodes_taken)
      | false ↦ set (set s 8 (node_next s (released_of s).node)) 10 ((released_of s).nodes - 1)
    ]

unfoldable pub next_page : List ℕ → ℕ
next_page s = elim (eqb (released_of s).pages 0) [ true ↦ suc (head_of s).pages_taken | false ↦ (released_of s).page ]

unfoldable pub page_taken : Format → List ℕ → List ℕ
page_taken f s =
    elim (eqb (released_of s).pages 0) [
      | true ↦ set s 5 (suc (head_of s).pages_taken)
      | false ↦ set (set s 9 (page_next f s (released_of s).page)) 11 ((released_of s).pages - 1)
    ]
