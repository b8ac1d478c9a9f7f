-- Damaged stores, plots with C = 1, that remove refuses with number 9 by one test that no sound store needs: in each it is to remove the
-- record with the key 01.. in bits, `second`.
--   one_way     == the two level-1 nodes to be joined do not link to each other
--   other_level == the node behind them is no level-1 node
--   twice      == the sibling node is the node itself, under another prefix
--   DamageRefused == each is refused, and every word stays
use Rattle.std.specs.Prelude.{◌≡◌, List, [], ◌∷◌, ◌++◌, ℕ, replicate}
use Rattle.store.specs.declared.Format.TheVariants.{Plots}
use Rattle.remove.specs.Remove.{same, remove_of}

abbrev pub second : ℕ
second = 1073741824

-- θ = 1. The pages 1 and 2 become one, for all keys, so the nodes 1 and 2 are to be joined. "the pair must link to each other"
unfoldable pub one_way : List ℕ
one_way =
    -- θ, C, N, P, nodes taken, pages taken, root, levels, eight zeros
    (1 ∷ 1 ∷ 3 ∷ 2 ∷ 3 ∷ 2 ∷ 3 ∷ 2 ∷ replicate 8 0)
    -- node 1: H = 1, level 1, links 0 and 2, pages 1 and 2
    ++ (1 ∷ 1 ∷ 0 ∷ 2 ∷ 1 ∷ 1 ∷ 1 ∷ 2 ∷ [])
    -- node 2: H = 0, level 1, an empty stretch; its back link is 0 and not 1
    ++ (0 ∷ 1 ∷ 0 ∷ 0 ∷ 0 ∷ 0 ∷ 0 ∷ 0 ∷ [])
    -- node 3, the root: H = 1, level 2, nodes 1 and 2
    ++ (1 ∷ 2 ∷ 0 ∷ 0 ∷ 1 ∷ 1 ∷ 1 ∷ 2 ∷ [])
    -- pages 1 and 2: keys 00.. and 01..
    ++ (1 ∷ 268435456 ∷ 1 ∷ 0 ∷ 0 ∷ [])
    ++ (1 ∷ 1073741824 ∷ 1 ∷ 0 ∷ 0 ∷ [])

-- The same, but the links between the nodes 1 and 2 are right. "another taken level-1 node that links back"
unfoldable pub other_level : List ℕ
other_level =
    (1 ∷ 1 ∷ 4 ∷ 2 ∷ 4 ∷ 2 ∷ 3 ∷ 2 ∷ replicate 8 0)
    -- node 1: links 0 and 2
    ++ (1 ∷ 1 ∷ 0 ∷ 2 ∷ 1 ∷ 1 ∷ 1 ∷ 2 ∷ [])
    -- node 2: links 1 and 4
    ++ (0 ∷ 1 ∷ 1 ∷ 4 ∷ 0 ∷ 0 ∷ 0 ∷ 0 ∷ [])
    -- node 3, the root
    ++ (1 ∷ 2 ∷ 0 ∷ 0 ∷ 1 ∷ 1 ∷ 1 ∷ 2 ∷ [])
    -- node 4 links back to node 2; its level is 2 and not 1
    ++ (0 ∷ 2 ∷ 2 ∷ 0 ∷ 0 ∷ 0 ∷ 0 ∷ 0 ∷ [])
    -- pages 1 and 2
    ++ (1 ∷ 268435456 ∷ 1 ∷ 0 ∷ 0 ∷ [])
    ++ (1 ∷ 1073741824 ∷ 1 ∷ 0 ∷ 0 ∷ [])

-- θ = 2. The pages 2 and 3 become one, for the keys 01.., so the node of the keys 0.. is to be joined with its sibling, if they fit.
-- "A block that one remove reaches under two prefixes .. is damaged."
unfoldable pub twice : List ℕ
twice =
    (2 ∷ 1 ∷ 2 ∷ 3 ∷ 2 ∷ 3 ∷ 2 ∷ 2 ∷ replicate 8 0)
    -- node 1: H = 2, level 1, no links, page 1 with h = 1, pages 2 and 3 with h = 2
    ++ (2 ∷ 1 ∷ 0 ∷ 0 ∷ 1 ∷ 1 ∷ 1 ∷ 1 ∷ 2 ∷ 2 ∷ 2 ∷ 3 ∷ [])
    -- node 2, the root: H = 1, level 2, node 1 for the keys 0.. and for the keys 1..
    ++ (1 ∷ 2 ∷ 0 ∷ 0 ∷ 1 ∷ 1 ∷ 1 ∷ 1 ∷ 0 ∷ 0 ∷ 0 ∷ 0 ∷ [])
    -- pages 1, 2 and 3: keys 00.., 010.. and 011..
    ++ (1 ∷ 268435456 ∷ 1 ∷ 0 ∷ 0 ∷ [])
    ++ (1 ∷ 1073741824 ∷ 1 ∷ 0 ∷ 0 ∷ [])
    ++ (1 ∷ 1610612736 ∷ 1 ∷ 0 ∷ 0 ∷ [])

abbrev pub DamageRefused : Type 0
DamageRefused =
    (remove_of Plots one_way second ≡ same one_way 9)
    × (remove_of Plots other_level second ≡ same other_level 9)
    × (remove_of Plots twice second ≡ same twice 9)
