-- How the entries of a node are tested without a branch at each. Numbers below 2^31 are compared by their difference modulo 2^32, whose top
-- bit is set where the first is below the second, and the bits of all tests are gathered.
--   behind_of x y              == x − y modulo 2^32
--   outside_of H low high x    == its top bit is set where the entry x has a local depth above H or a pointer not from low to high
--   torn_of apart x y          == the bits in which the neighbours x and y differ, where the local depth of either is below `apart`
--   gathered_of H low high apart x y g == the tests g with those of the entry y, which stands behind x
--   before_of ws i             == the two words before entry i: entry i − 1, or the links
use Rattle.std.specs.Prelude.{ℕ, ◌+◌, ◌-◌, ◌*◌, ◌%◌, ◌^◌, true, false, List, ◌==◌, bit_or, bit_xor, nat_lt}
use Rattle.tree.specs.Node.{Entry}
use Rattle.store.specs.Head.{word}
use Rattle.node.specs.declared.Faults.{Faults}

unfoldable pub behind_of : ℕ → ℕ → ℕ
behind_of x y = (x + 2 ^ 32 - y) % 2 ^ 32

unfoldable pub outside_of : ℕ → ℕ → ℕ → Entry ℕ → ℕ
outside_of H low high x = bit_or (bit_or (bit_or x.0 (behind_of H x.0)) (behind_of x.1 low)) (behind_of high x.1)

unfoldable pub torn_of : ℕ → Entry ℕ → Entry ℕ → ℕ
torn_of apart x y =
    elim (nat_lt (bit_or (behind_of y.0 apart) (behind_of x.0 apart)) (2 ^ 31)) [
      | true ↦ 0
      | false ↦ bit_or (bit_xor y.0 x.0) (bit_xor y.1 x.1)
    ]

unfoldable pub gathered_of : ℕ → ℕ → ℕ → ℕ → Entry ℕ → Entry ℕ → Faults → Faults
gathered_of H low high apart x y g =
    record {
      outside = bit_or g.outside (outside_of H low high y);
      torn = bit_or g.torn (torn_of apart x y);
      full = bit_or g.full (elim (y.0 == H) [ true ↦ 1 | false ↦ 0 ]);
    }

abbrev pub before_of : List ℕ → ℕ → Entry ℕ
before_of ws i = (word ws (2 + 2 * i), word ws (3 + 2 * i))
