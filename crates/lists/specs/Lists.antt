-- Lists: what holds of every element, filtering by a test, and replacing a part.
--   All P xs      == P holds of each element
--   Pairwise P xs == P x y holds of each element x and each later element y
--   filter f xs   == the elements that pass the test f, in order
--   all f xs      == each element passes the test f, as a Bool
--   replaced a n ys xs == xs with its n elements from index a on replaced by ys
--   part xs a n   == the n elements of xs from index a on, none where there are not so many
--   tab n f       == f 0, f 1, .., f (n − 1)
--   every n t     == each of 0, .., n − 1 passes the test t
--   greatest n f  == the largest of f 0, .., f (n − 1), 0 for none
use Rattle.std.specs.Prelude.{Bool, true, false, ◌&&◌, List, [], ◌∷◌, ◌++◌, ℕ, zero, suc, ◌+◌, max, leb, length, take, drop}

module _ {A : Type 0} where
  abbrev pub All : (A → Type 0) → List A → Type 0
  All P [] = Unit {0}
  All P (x ∷ xs) = P x × All P xs

  abbrev pub Pairwise : (A → A → Type 0) → List A → Type 0
  Pairwise P [] = Unit {0}
  Pairwise P (x ∷ xs) = All (P x) xs × Pairwise P xs

  abbrev pub filter : (A → Bool) → List A → List A
  filter f [] = []
  filter f (x ∷ xs) = elim (f x) [ true ↦ x ∷ filter f xs | false ↦ filter f xs ]

  abbrev pub all : (A → Bool) → List A → Bool
  all f [] = true
  all f (x ∷ xs) = f x && all f xs

  unfoldable pub replaced : ℕ → ℕ → List A → List A → List A
  replaced a n ys xs = take a xs ++ (ys ++ drop (a + n) xs)

  unfoldable pub part : List A → ℕ → ℕ → List A
  part xs a n = elim (leb (a + n) (length xs)) [ true ↦ take n (drop a xs) | false ↦ [] ]

  unfoldable pub tab : ℕ → (ℕ → A) → List A
  tab zero f = []
  tab (suc n) f = f 0 ∷ tab n (λ i. f (suc i))

unfoldable pub every : ℕ → (ℕ → Bool) → Bool
every zero t = true
every (suc n) t = every n t && t n

unfoldable pub greatest : ℕ → (ℕ → ℕ) → ℕ
greatest zero f = 0
greatest (suc n) f = max (greatest n f) (f n)
