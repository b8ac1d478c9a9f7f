-- Stores that break the report's definition, each one part of it: they keep that part from being weakened. All but the first two are
-- document 01's sample store, which keeps the five clauses, with one thing other.
--   Breaks s   == the store s does not keep the five clauses
--   doubled    == θ = 1, C = N = P = 1: the two entries of node 1, with h = 1, both point to page 1. Every entry's aligned run is there;
--                 but page 1 has two
--   orphaned   == θ = 1, C = P = 1, N = 2: node 1 is the root and a terminal node, node 2 a terminal node behind it that no key reaches
--   uneven     == the head has three levels, and the root is on level 2
--   unlinked   == (represent/specs/Broken) the back link of node 2 is 0 and not 1
--   crossed    == the root's two pointers are exchanged: keys with a leading 0 have the terminal node 2, which is linked behind node 1
--   deep       == node 2 has H = 2, and θ is 1
--   trailing   == node 1, with H = 0, has a pointer in the second entry's place
--   looped     == the root's first entry points to the root
--   steep      == the entry of node 1, with H = 0, has h = 1
--   torn       == entry 0 of node 2, with H = 1, has h = 0, and entry 1 is another
--   emptied    == page 1, to which node 2 points, has no record
--   SampleKeeps == the sample store keeps the five clauses
--   DoubledBreaks, OrphanedBreaks, BalancedBreaks, LinkedBreaks, OrderedBreaks, TwoBreaks, ThreeBreaks, FourBreaks, FiveBreaks == the others
--                 do not
use Rattle.std.specs.Prelude.{List, [], ◌∷◌, ◌++◌, ℕ, set, replicate}
use Rattle.store.specs.declared.Format.TheVariants.{Plots}
use Rattle.represent.specs.Example.{stored}
use Rattle.represent.specs.Broken.{unlinked}
use Rattle.readings.specs.Clauses.{Clauses}

abbrev pub Breaks : List ℕ → Type 0
Breaks s = Clauses Plots s → ⊥

unfoldable pub doubled : List ℕ
doubled =
    (1 ∷ 1 ∷ 1 ∷ 1 ∷ 1 ∷ 1 ∷ 1 ∷ 1 ∷ replicate 8 0)
    ++ (1 ∷ 1 ∷ 0 ∷ 0 ∷ 1 ∷ 1 ∷ 1 ∷ 1 ∷ [])
    ++ (1 ∷ 5 ∷ 0 ∷ 0 ∷ 0 ∷ [])

unfoldable pub orphaned : List ℕ
orphaned =
    (1 ∷ 1 ∷ 2 ∷ 1 ∷ 2 ∷ 0 ∷ 1 ∷ 1 ∷ replicate 8 0)
    ++ (0 ∷ 1 ∷ 0 ∷ 2 ∷ 0 ∷ 0 ∷ 0 ∷ 0 ∷ [])
    ++ (0 ∷ 1 ∷ 1 ∷ 0 ∷ 0 ∷ 0 ∷ 0 ∷ 0 ∷ [])
    ++ (0 ∷ 0 ∷ 0 ∷ 0 ∷ 0 ∷ [])

-- the head's levels
abbrev pub uneven : List ℕ
uneven = set stored 7 3

-- the pointers of node 3, the root
abbrev pub crossed : List ℕ
crossed = set (set stored 37 2) 39 1

-- H of node 2
abbrev pub deep : List ℕ
deep = set stored 24 2

-- the last word of node 1
abbrev pub trailing : List ℕ
trailing = set stored 23 1

-- the first pointer of node 3, the root
abbrev pub looped : List ℕ
looped = set stored 37 3

-- h of node 1's entry
abbrev pub steep : List ℕ
steep = set stored 20 1

-- h of node 2's first entry
abbrev pub torn : List ℕ
torn = set stored 28 0

-- the count of page 1
abbrev pub emptied : List ℕ
emptied = set stored 48 0

abbrev pub SampleKeeps : Type 0
SampleKeeps = Clauses Plots stored

abbrev pub DoubledBreaks : Type 0
DoubledBreaks = Breaks doubled

abbrev pub OrphanedBreaks : Type 0
OrphanedBreaks = Breaks orphaned

-- 1. "all terminal nodes appear on the same level ..
abbrev pub BalancedBreaks : Type 0
BalancedBreaks = Breaks uneven

-- .. and are linked ..
abbrev pub LinkedBreaks : Type 0
LinkedBreaks = Breaks unlinked

-- .. in key order."
abbrev pub OrderedBreaks : Type 0
OrderedBreaks = Breaks crossed

-- 2. "every directory node D at level l is headed by a value D.H for 0 ≤ H ≤ θ and has k = 2^H entries."
abbrev pub TwoBreaks : Type 0
TwoBreaks = Breaks deep × Breaks trailing

-- 3. "each entry .. points to a directory node or a data page at level l − 1, and a local depth D_i.h for 0 ≤ h ≤ H."
abbrev pub ThreeBreaks : Type 0
ThreeBreaks = Breaks looped × Breaks steep

-- 4. "for each entry with local depth h there are 2^(H−h) entries of the node with the same values of local depth and page pointers."
abbrev pub FourBreaks : Type 0
FourBreaks = Breaks torn

-- 5. "the terminal nodes of the directory .. contain either data page pointers or are null."
abbrev pub FiveBreaks : Type 0
FiveBreaks = Breaks emptied
