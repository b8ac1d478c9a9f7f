-- The small store of represent/specs/Example with the record of the key 11.. handed back: pages and nodes join, a root goes.
--   handed_back     == its 68 words then
--   ExampleRemoved == remove gives the record and leaves these words
use Rattle.std.specs.Prelude.{◌≡◌, List, [], ◌∷◌, ◌++◌, ℕ, replicate}
use Rattle.store.specs.declared.Format.TheVariants.{Plots}
use Rattle.represent.specs.Example.{three, stored}
use Rattle.remove.specs.Remove.{remove_of}

unfoldable pub handed_back : List ℕ
handed_back =
    -- θ, C, N, P, nodes taken, pages taken, root, levels; the last released node and page, how many of each; four zeros
    (1 ∷ 1 ∷ 4 ∷ 4 ∷ 3 ∷ 3 ∷ 1 ∷ 1 ∷ 3 ∷ 2 ∷ 2 ∷ 1 ∷ replicate 4 0)
    -- node 1, the root: H = 1, level 1, no links, entries with h = 1: pages 3 and 1
    ++ (1 ∷ 1 ∷ 0 ∷ 0 ∷ 1 ∷ 3 ∷ 1 ∷ 1 ∷ [])
    -- node 2 is released, with no next one
    ++ replicate 8 0
    -- node 3 is released, and names node 2
    ++ (0 ∷ 0 ∷ 2 ∷ replicate 5 0)
    -- node 4 is free
    ++ replicate 8 0
    -- page 1
    ++ (1 ∷ 2147483648 ∷ 1250000 ∷ 36525 ∷ 66000 ∷ [])
    -- page 2 is released, with no next one
    ++ replicate 5 0
    -- page 3
    ++ (1 ∷ 1073741824 ∷ 60000 ∷ 9131 ∷ 45999 ∷ [])
    -- page 4 is free
    ++ replicate 5 0

abbrev pub ExampleRemoved : Type 0
ExampleRemoved = remove_of Plots stored three.key ≡ record { reply = record { number = 0; item = three }; words = handed_back }
