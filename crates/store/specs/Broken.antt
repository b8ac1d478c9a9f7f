-- A store with two released nodes and two released pages, and the same with one word other: they keep the chains' rule from being weakened.
--   chained == node 4 was released last, before it node 3; page 3 last, before it page 2
--   endless == node 3, the first released, has a next one
--   circle  == node 4 is its own next one, and three nodes are counted
--   used_node, used_page == the last released one has a level, or a record's word, that is not 0
--   ChainsTested == the last two nodes and the last page of the first may be taken, and none of the others
use Rattle.std.specs.Prelude.{◌≡◌, true, false, List, [], ◌∷◌, ◌++◌, ℕ, set, replicate}
use Rattle.store.specs.declared.Format.TheVariants.{Plots}
use Rattle.store.specs.Released.{nodes_ok, pages_ok}

unfoldable pub chained : List ℕ
chained =
    (1 ∷ 1 ∷ 4 ∷ 4 ∷ 4 ∷ 3 ∷ 1 ∷ 1 ∷ 4 ∷ 3 ∷ 2 ∷ 2 ∷ 0 ∷ 0 ∷ 0 ∷ 0 ∷ [])
    ++ replicate 24 0
    ++ (0 ∷ 0 ∷ 3 ∷ 0 ∷ 0 ∷ 0 ∷ 0 ∷ 0 ∷ [])
    ++ replicate 10 0
    ++ (0 ∷ 2 ∷ 0 ∷ 0 ∷ 0 ∷ [])
    ++ replicate 5 0

abbrev pub endless : List ℕ
endless = set chained 34 1

abbrev pub circle : List ℕ
circle = set (set chained 42 4) 10 3

abbrev pub used_node : List ℕ
used_node = set chained 41 1

abbrev pub used_page : List ℕ
used_page = set chained 62 1

-- "A released page has count 0 and the next one in its second word; a released node has level 0 and the next one in its third; other words
-- are zero." "its next a taken number, or 0 just for the last counted." "A block that .. one enter [reaches] twice in the released chain, is
-- damaged."
abbrev pub ChainsTested : Type 0
ChainsTested =
    (nodes_ok chained 2 ≡ true) × (pages_ok Plots chained 1 ≡ true) × (nodes_ok endless 1 ≡ true) × (nodes_ok endless 2 ≡ false)
    × (nodes_ok circle 1 ≡ true) × (nodes_ok circle 2 ≡ false) × (nodes_ok used_node 1 ≡ false) × (pages_ok Plots used_page 1 ≡ false)
