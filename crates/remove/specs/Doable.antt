-- What the writes of a plan ask of the words. Document 02, M-106.
--   In m ns        == each of the numbers ns is 1 to m
--   Writable s xs  == each of the nodes xs has the number of a block of s, and as many words as such a block
--   Doable f s p   == every number of the plan p is that of a block, every block has its words, and the records fit a page
use Rattle.std.specs.Prelude.{◌≡◌, true, List, ◌⊎◌, ℕ, ◌≤◌, length}
use Rattle.lists.specs.Lists.{All}
use Rattle.store.specs.declared.Format.{Format}
use Rattle.store.specs.Head.{head_of, node_words}
use Rattle.node.specs.Node.{forward_word}
use Rattle.represent.specs.Rep.{size_of}
use Rattle.remove.specs.Remove.{Spot, Plan, first_spot}

abbrev pub In : ℕ → List ℕ → Type 0
In m = All (λ n. (1 ≤ n) × (n ≤ m))

abbrev pub Writable : List ℕ → List Spot → Type 0
Writable s = All (λ x. (1 ≤ x.number) × (x.number ≤ (head_of s).node_blocks) × (length x.block ≡ node_words (head_of s).theta))

pub record Doable (f : Format) (s : List ℕ) (p : Plan) : Type 0 where
  pub room : size_of f s ≤ length s
  pub capacity : 1 ≤ (head_of s).capacity
  pub own : (p.page ≡ 0) ⊎ ((1 ≤ p.page) × (p.page ≤ (head_of s).page_blocks) × (length p.items ≤ (head_of s).capacity))
  pub spots : Writable s p.spots
  pub link : p.linked ≡ true → forward_word (first_spot p.spots).block 0 ≤ (head_of s).node_blocks
  pub pages : In (head_of s).page_blocks p.pages
  pub nodes : In (head_of s).node_blocks p.nodes
