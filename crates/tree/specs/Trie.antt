-- Binary tries, read and changed at a key: a list of bits, high bit first. A key that ends too early goes left.
-- A leaf stands for all keys with one prefix; document 01 calls that a stretch, and `fork` is a stretch that is halved.
--   Trie A       == a trie with a label of type A at each leaf
--   Shape, tip   == a trie without labels; one leaf
--   shape t      == t without its labels
--   relabel g t  == t with each label x replaced by g x
--   height t     == the length of the longest prefix below t
--   leaves t     == the number of leaves
--   labels t     == the labels, left to right
--   leaf_at t k   == the label of the leaf at the key k
--   depth t k    == how many bits of the key lead to that leaf
--   rest t k     == the bits of the key that are left there
--   graft t k c  == t with the leaf at the key replaced by the trie c
--   pair x y     == a fork of two leaves
--   split t k    == the shape t with the leaf at the key halved
--   Key          == the bits of a key, high bit first
use Rattle.std.specs.Prelude.{Bool, true, false, List, [], ◌∷◌, ◌++◌, ℕ, suc, ◌+◌, max}

pub data Trie (A : Type 0) : Type 0 where
  leaf : A → Trie A
  fork : Trie A → Trie A → Trie A

abbrev pub Shape : Type 0
Shape = Trie (Unit {0})

abbrev pub tip : Shape
tip = leaf tt

abbrev pub Key : Type 0
Key = List Bool

module _ {A : Type 0} where
  abbrev pub shape : Trie A → Shape
  shape (leaf x) = tip
  shape (fork l r) = fork (shape l) (shape r)

  abbrev pub height : Trie A → ℕ
  height (leaf x) = 0
  height (fork l r) = suc (max (height l) (height r))

  abbrev pub leaves : Trie A → ℕ
  leaves (leaf x) = 1
  leaves (fork l r) = leaves l + leaves r

  abbrev pub labels : Trie A → List A
  labels (leaf x) = x ∷ []
  labels (fork l r) = labels l ++ labels r

  abbrev pub leaf_at : Trie A → Key → A
  leaf_at (leaf x) k = x
  leaf_at (fork l r) [] = leaf_at l []
  leaf_at (fork l r) (false ∷ k) = leaf_at l k
  leaf_at (fork l r) (true ∷ k) = leaf_at r k

  abbrev pub depth : Trie A → Key → ℕ
  depth (leaf x) k = 0
  depth (fork l r) [] = suc (depth l [])
  depth (fork l r) (false ∷ k) = suc (depth l k)
  depth (fork l r) (true ∷ k) = suc (depth r k)

  abbrev pub rest : Trie A → Key → Key
  rest (leaf x) k = k
  rest (fork l r) [] = rest l []
  rest (fork l r) (false ∷ k) = rest l k
  rest (fork l r) (true ∷ k) = rest r k

  abbrev pub graft : Trie A → Key → Trie A → Trie A
  graft (leaf x) k c = c
  graft (fork l r) [] c = fork (graft l [] c) r
  graft (fork l r) (false ∷ k) c = fork (graft l k c) r
  graft (fork l r) (true ∷ k) c = fork l (graft r k c)

  abbrev pub pair : A → A → Trie A
  pair x y = fork (leaf x) (leaf y)

abbrev pub split : Shape → Key → Shape
split t k = graft t k (pair tt tt)

abbrev pub relabel : {A B : Type 0} → (A → B) → Trie A → Trie B
relabel g (leaf x) = leaf (g x)
relabel g (fork l r) = fork (relabel g l) (relabel g r)
