-- Tries whose leaves are labelled with block numbers, one over another.
--   Each P t        == P holds of each label of t
--   ind x n         == 1 if the two numbers are equal, else 0
--   occ n t         == how often the number n labels a leaf of t; occs n bs: of the tries bs together
--   count n ns      == how often n stands in the list ns
--   OneForOne m g   == each of 1, .., m occurs once, and no larger number, where g n says how often n occurs
--   Over P b u      == P n v for each leaf n of b and the subtrie v of u that stands there; b is nowhere deeper than u
--   under b u k     == the subtrie of u under the leaf of b at the key k
--   before, after t k == the labels left and right of the leaf at the key
--   first ns        == the first of the numbers; null if there is none
--   behind ns       == the numbers behind the first
--   Linked back forward p ns == the numbers ns are linked both ways in this order, the first after p, the last before null
use Rattle.std.specs.Prelude.{◌≡◌, true, false, cond, List, [], ◌∷◌, ◌++◌, ℕ, ◌+◌, ◌≤◌, ◌<◌, eqb}
use Rattle.tree.specs.Trie.{Trie, leaf, fork, Key, labels}

abbrev pub Each : {A : Type 0} → (A → Type 0) → Trie A → Type 0
Each P (leaf x) = P x
Each P (fork l r) = Each P l × Each P r

-- 1 if the two numbers are equal, else 0
abbrev pub ind : ℕ → ℕ → ℕ
ind x n = cond (eqb x n) 1 0

abbrev pub occ : ℕ → Trie ℕ → ℕ
occ n (leaf x) = ind n x
occ n (fork l r) = occ n l + occ n r

abbrev pub occs : ℕ → List (Trie ℕ) → ℕ
occs n [] = 0
occs n (b ∷ bs) = occ n b + occs n bs

abbrev pub count : ℕ → List ℕ → ℕ
count n [] = 0
count n (x ∷ xs) = ind n x + count n xs

pub record OneForOne (m : ℕ) (g : ℕ → ℕ) : Type 0 where
  pub once : (n : ℕ) → 1 ≤ n → n ≤ m → g n ≡ 1
  pub none : (n : ℕ) → m < n → g n ≡ 0

module _ {A : Type 0} where
  abbrev pub Over : (ℕ → Trie A → Type 0) → Trie ℕ → Trie A → Type 0
  Over P (leaf n) u = P n u
  Over P (fork l r) (leaf x) = ⊥
  Over P (fork l r) (fork ul ur) = Over P l ul × Over P r ur

  abbrev pub under : Trie ℕ → Trie A → Key → Trie A
  under (leaf n) u k = u
  under (fork l r) (leaf x) k = leaf x
  under (fork l r) (fork ul ur) [] = under l ul []
  under (fork l r) (fork ul ur) (false ∷ k) = under l ul k
  under (fork l r) (fork ul ur) (true ∷ k) = under r ur k

  abbrev pub before : Trie A → Key → List A
  before (leaf x) k = []
  before (fork l r) [] = before l []
  before (fork l r) (false ∷ k) = before l k
  before (fork l r) (true ∷ k) = labels l ++ before r k

  abbrev pub after : Trie A → Key → List A
  after (leaf x) k = []
  after (fork l r) [] = after l [] ++ labels r
  after (fork l r) (false ∷ k) = after l k ++ labels r
  after (fork l r) (true ∷ k) = after r k

-- the first of the numbers; null if there is none
abbrev pub first : List ℕ → ℕ
first [] = 0
first (n ∷ ns) = n

abbrev pub behind : List ℕ → List ℕ
behind [] = []
behind (n ∷ ns) = ns

module _ (back forward : ℕ → ℕ) where
  -- "Level-1 nodes are linked both ways in key order"
  abbrev pub Linked : ℕ → List ℕ → Type 0
  Linked p [] = Unit {0}
  Linked p (n ∷ ns) = (back n ≡ p) × (forward n ≡ first ns) × Linked n ns
