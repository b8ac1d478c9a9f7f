-- A small store, worked out: document 01's sample, θ = 1, C = 1, N = P = 4, with its three records entered.
--   stored      == its 68 words
--   one, two, three == its records, by ascending key
--   stretches, directory == its tries: the level-0 stretches, and the levels 1 and 2
--   ExampleHolds == the words hold the tree of the three records
use Rattle.std.specs.Prelude.{List, [], ◌∷◌, ◌++◌, ℕ, replicate}
use Rattle.tree.specs.Trie.{Trie, leaf, fork, pair}
use Rattle.store.specs.declared.Format.TheVariants.{Plots}
use Rattle.store.specs.declared.Item.{Item}
use Rattle.represent.specs.Rep.{Stretch, Holds}

-- keys 01.., 10.. and 11.. in bits
abbrev pub one : Item
one = record { key = 1073741824; price = 60000; lease = 9131; last = 45999 }

abbrev pub two : Item
two = record { key = 2147483648; price = 1250000; lease = 36525; last = 66000 }

abbrev pub three : Item
three = record { key = 3221225472; price = 90000; lease = 0; last = 0 }

abbrev pub stretches : Trie Stretch
stretches = fork (leaf (3, one ∷ [])) (pair (1, two ∷ []) (2, three ∷ []))

abbrev pub directory : List (Trie ℕ)
directory = pair 1 2 ∷ leaf 3 ∷ []

unfoldable pub stored : List ℕ
stored =
    -- θ, C, N, P, nodes taken, pages taken, root, levels, eight zeros
    (1 ∷ 1 ∷ 4 ∷ 4 ∷ 3 ∷ 3 ∷ 3 ∷ 2 ∷ replicate 8 0)
    -- node 1: H = 0, level 1, links 0 and 2, one entry: h = 0, page 3; then zeros
    ++ (0 ∷ 1 ∷ 0 ∷ 2 ∷ 0 ∷ 3 ∷ 0 ∷ 0 ∷ [])
    -- node 2: H = 1, level 1, links 1 and 0, entries with h = 1: pages 1 and 2
    ++ (1 ∷ 1 ∷ 1 ∷ 0 ∷ 1 ∷ 1 ∷ 1 ∷ 2 ∷ [])
    -- node 3, the root: H = 1, level 2, no links, entries with h = 1: nodes 1 and 2
    ++ (1 ∷ 2 ∷ 0 ∷ 0 ∷ 1 ∷ 1 ∷ 1 ∷ 2 ∷ [])
    -- node 4 is free
    ++ replicate 8 0
    -- pages 1, 2 and 3: count and record
    ++ (1 ∷ 2147483648 ∷ 1250000 ∷ 36525 ∷ 66000 ∷ [])
    ++ (1 ∷ 3221225472 ∷ 90000 ∷ 0 ∷ 0 ∷ [])
    ++ (1 ∷ 1073741824 ∷ 60000 ∷ 9131 ∷ 45999 ∷ [])
    -- page 4 is free
    ++ replicate 5 0

abbrev pub ExampleHolds : Type 0
ExampleHolds = Holds Plots stored (one ∷ two ∷ three ∷ [])
