-- What one halving of a level-0 stretch does to the levels above it, by what stands at the key.
--   locals t bs k   == the local depth at the key in each level of bs over t, lowest first
--   carry θ t bs k  == the levels bs over t after t's stretch at the key is halved
--   bump θ hs       == the local depths after that
--   bump_cost θ hs   == the nodes that it takes
--   splits d t k    == d halvings at the key, one after another; bumps, bump_costs: the same of `bump` and `bump_cost`
use Rattle.std.specs.Prelude.{true, false, List, [], ◌∷◌, ℕ, zero, suc, ◌+◌, ◌-◌, ltb}
use Rattle.tree.specs.Trie.{Trie, Shape, tip, Key, depth, split}

abbrev pub locals : {A : Type 0} → Trie A → List (Trie A) → Key → List ℕ
locals t [] k = []
locals t (b ∷ bs) k = (depth t k - depth b k) ∷ locals b bs k

-- A run at the largest depth θ splits its node, and so halves the level above; above the root a new root.
unfoldable pub carry : ℕ → Shape → List Shape → Key → List Shape
carry θ t [] k = tip ∷ []
carry θ t (b ∷ bs) k = elim (ltb (depth t k - depth b k) θ) [ true ↦ b ∷ bs | false ↦ split b k ∷ carry θ b bs k ]

unfoldable pub bump : ℕ → List ℕ → List ℕ
bump θ [] = 1 ∷ []
bump θ (h ∷ hs) = elim (ltb h θ) [ true ↦ suc h ∷ hs | false ↦ θ ∷ bump θ hs ]

unfoldable pub bump_cost : ℕ → List ℕ → ℕ
bump_cost θ [] = 1
bump_cost θ (h ∷ hs) = elim (ltb h θ) [ true ↦ 0 | false ↦ suc (bump_cost θ hs) ]

abbrev pub splits : ℕ → Shape → Key → Shape
splits zero t k = t
splits (suc d) t k = splits d (split t k) k

abbrev pub bumps : ℕ → ℕ → List ℕ → List ℕ
bumps zero θ hs = hs
bumps (suc d) θ hs = bumps d θ (bump θ hs)

abbrev pub bump_costs : ℕ → ℕ → List ℕ → ℕ
bump_costs zero θ hs = 0
bump_costs (suc d) θ hs = bump_cost θ hs + bump_costs d θ (bump θ hs)
