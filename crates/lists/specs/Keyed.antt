-- Lists of records with a key: the ascending list of a set.
--   Sorted key xs    == the keys of xs ascend
--   Distinct key xs  == no two records of xs have the same key
--   Lacks key k xs   == no record of xs has the key k
--   Bounded key n xs == every key of xs is below n
--   Prefix key w q xs == every key of xs has q above its low w bits
--   contains key k xs == some record of xs has the key k, as a Bool
--   insert key r xs  == xs with r before the first record of a larger key
--   ascending key xs == the records of xs in ascending order
use Rattle.std.specs.Prelude.{◌≡◌, Bool, true, false, ◌||◌, List, [], ◌∷◌, ℕ, ◌/◌, ◌^◌, ◌<◌, ltb, eqb}
use Rattle.lists.specs.Lists.{All, Pairwise}

module _ {R : Type 0} (key : R → ℕ) where
  abbrev pub Sorted : List R → Type 0
  Sorted = Pairwise (λ x y. key x < key y)

  abbrev pub Distinct : List R → Type 0
  Distinct = Pairwise (λ x y. key x ≡ key y → ⊥)

  abbrev pub Lacks : ℕ → List R → Type 0
  Lacks k = All (λ x. key x ≡ k → ⊥)

  abbrev pub Bounded : ℕ → List R → Type 0
  Bounded n = All (λ x. key x < n)

  abbrev pub Prefix : ℕ → ℕ → List R → Type 0
  Prefix w q = All (λ x. key x / 2 ^ w ≡ q)

  unfoldable pub contains : ℕ → List R → Bool
  contains k [] = false
  contains k (x ∷ xs) = eqb (key x) k || contains k xs

  unfoldable pub insert : R → List R → List R
  insert r [] = r ∷ []
  insert r (x ∷ xs) = elim (ltb (key r) (key x)) [ true ↦ r ∷ x ∷ xs | false ↦ x ∷ insert r xs ]

  unfoldable pub ascending : List R → List R
  ascending [] = []
  ascending (x ∷ xs) = insert x (ascending xs)
