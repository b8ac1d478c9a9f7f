-- The levels of nodes over the level-0 stretches. Document 01, "The tree of a set".
--   cut θ t      == the level k stretches, from the level k−1 stretches t
--   levels_above n θ t  == the levels above t up to the first with one stretch, n at most
--   tower θ t    == the levels 1, 2, .. over the level-0 stretches t, up to the first with one stretch
--   levels θ t   == Levels
--   nodes θ t    == the number of nodes: a node for each stretch of the levels 1 to Levels
--   Tall θ b t   == b has a leaf only over at most θ bits of t, and a fork only over more
--   Canonical θ t bs == each level of bs is tall over the one below (t first), none but the last is one stretch, and the last is
--   all_leaves bs == the leaves of all levels together
--   IsFork b, Topped b bs == b is more than one stretch; b is one stretch just if no level is above it
use Rattle.std.specs.Prelude.{true, false, List, [], ◌∷◌, ◌≡◌, ℕ, zero, suc, ◌+◌, ◌≤◌, ◌<◌, leb, length}
use Rattle.tree.specs.Trie.{leaf, fork, Shape, tip, height, leaves}

-- "Level k stretches (k ≥ 1): start with all keys and halve every stretch that contains a level k−1 stretch whose prefix is over θ bits
-- longer." Below a stretch the longest prefix is `height` bits longer.
unfoldable pub cut : ℕ → Shape → Shape
cut θ (leaf x) = tip
cut θ (fork l r) = elim (leb (height (fork l r)) θ) [ true ↦ tip | false ↦ fork (cut θ l) (cut θ r) ]

abbrev pub levels_above : ℕ → ℕ → Shape → List Shape
levels_above zero θ t = []
levels_above (suc n) θ (leaf x) = []
levels_above (suc n) θ (fork l r) = cut θ (fork l r) ∷ levels_above n θ (cut θ (fork l r))

-- "Levels = the first k ≥ 1 with one stretch." (A cut takes θ from the height, so as many levels as the height are enough.)
unfoldable pub tower : ℕ → Shape → List Shape
tower θ t = cut θ t ∷ levels_above (height t) θ (cut θ t)

abbrev pub levels : ℕ → Shape → ℕ
levels θ t = length (tower θ t)

abbrev pub all_leaves : List Shape → ℕ
all_leaves [] = 0
all_leaves (b ∷ bs) = leaves b + all_leaves bs

-- "Each level k stretch, k from 1 to Levels, is a node"
abbrev pub nodes : ℕ → Shape → ℕ
nodes θ t = all_leaves (tower θ t)

abbrev pub Tall : ℕ → Shape → Shape → Type 0
Tall θ (leaf x) t = height t ≤ θ
Tall θ (fork l r) (leaf y) = ⊥
Tall θ (fork l r) (fork tl tr) = (θ < height (fork tl tr)) × (Tall θ l tl × Tall θ r tr)

abbrev pub IsFork : Shape → Type 0
IsFork (leaf x) = ⊥
IsFork (fork l r) = Unit {0}

-- what a level is, by the levels above it
abbrev pub Topped : Shape → List Shape → Type 0
Topped b [] = b ≡ tip
Topped b (c ∷ bs) = IsFork b

abbrev pub Canonical : ℕ → Shape → List Shape → Type 0
Canonical θ t [] = Unit {0}
Canonical θ t (b ∷ bs) = Tall θ b t × (Topped b bs × Canonical θ b bs)
