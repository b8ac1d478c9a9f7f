-- Where the blocks of any words stand: θ above 6 counts as 6, the capacity is taken modulo the largest + 1, products have 32 bits.
--   node_size θ     == the words of a node block
--   node_block s n  == the first word of node block n
--   page_size s     == the words of a page block
--   page_block s p  == the first word of page block p
--   block_kind n    == the kind of block with a number: 1 the head, 2 a node, any other a page
--   block s kind n == the first word of block n of a kind
use Rattle.std.specs.Prelude.{true, false, List, ℕ, ◌+◌, ◌-◌, ◌*◌, ◌%◌, ◌^◌, min, eqb}
use Rattle.store.specs.Head.{largest_capacity, word}
use Rattle.raw.specs.declared.blocks.Block.{Block}
use Rattle.raw.specs.declared.blocks.Block.TheVariants.{Head, Node, Page}

unfoldable pub node_size : ℕ → ℕ
node_size θ = 4 + 2 * 2 ^ min θ 6

unfoldable pub node_block : List ℕ → ℕ → ℕ
node_block s n = 16 + (n - 1) * node_size (word s 0) % 2 ^ 32

unfoldable pub page_size : List ℕ → ℕ
page_size s = 1 + 4 * (word s 1 % (largest_capacity + 1))

unfoldable pub page_block : List ℕ → ℕ → ℕ
page_block s p = 16 + word s 2 * node_size (word s 0) % 2 ^ 32 + (p - 1) * page_size s % 2 ^ 32

abbrev pub block_kind : ℕ → Block
block_kind n = elim (eqb n 1) [ true ↦ Head | false ↦ elim (eqb n 2) [ true ↦ Node | false ↦ Page ] ]

abbrev pub block : List ℕ → Block → ℕ → ℕ
block s Head n = 0
block s Node n = node_block s n
block s Page n = page_block s n
