-- The level-0 stretches of a set with their records. Document 01, "The tree of a set".
--   side b w rs   == those of the records rs whose bit w is b
--   build C w rs  == the level-0 stretches; the records rs share all but their low w bits
--   filled rs     == 1 if there are records, else 0
--   pages t       == the number of pages: one for each non-empty level-0 stretch
--   rounds w k ls == how often a full stretch ls, with w bits left, is halved until it and the key k part
-- At the key of a record r, on any trie t of stretches of w bits (k is a key):
--   target C w r t   == what the insertion of r is to come to: the leaf at its key built anew with r
--   halve w k t      == one round: the leaf at the key halved on the next bit
--   put w r t        == r put in order into the leaf at its key
--   rounds_at C w k t == the number of rounds that make room at the key: 0 unless the leaf is full
--   pages_at C ls     == the pages that a record more takes where the leaf at its key holds ls: 1 if that is empty or full, else 0
--   same a b      == the two bits are the same
use Rattle.std.specs.Prelude.{Bool, true, false, not, List, [], ◌∷◌, ℕ, zero, suc, ◌+◌, ◌-◌, leb, ltb, length}
use Rattle.lists.specs.Bits.{bit, bits}
use Rattle.lists.specs.Lists.{filter, all}
use Rattle.lists.specs.Keyed.{insert}
use Rattle.tree.specs.Trie.{Trie, leaf, fork, leaf_at, depth, graft, pair}

-- the two bits are the same
abbrev pub same : Bool → Bool → Bool
same true b = b
same false b = not b

module _ {R : Type 0} (key : R → ℕ) where
  abbrev pub side : Bool → ℕ → List R → List R
  side b w = filter (λ r. same b (bit w (key r)))

  -- "Level-0 stretches: start with all keys and halve every stretch that holds more than C records."
  -- (With distinct keys at most one record is left when no bit is.)
  unfoldable pub build : ℕ → ℕ → List R → Trie (List R)
  build C zero rs = leaf rs
  build C (suc w) rs = elim (leb (length rs) C) [ true ↦ leaf rs | false ↦ fork (build C w (side false w rs)) (build C w (side true w rs)) ]

  -- "At a full page: halve it on the next bit and try again."
  unfoldable pub rounds : ℕ → ℕ → List R → ℕ
  rounds zero k ls = 0
  rounds (suc w) k ls = elim (all (λ r. same (bit w k) (bit w (key r))) ls) [ true ↦ suc (rounds w k ls) | false ↦ 1 ]

  abbrev pub target : ℕ → ℕ → R → Trie (List R) → Trie (List R)
  target C w r t =
      graft t (bits w (key r)) (build C (w - depth t (bits w (key r))) (insert key r (leaf_at t (bits w (key r)))))

  abbrev pub halve : ℕ → ℕ → Trie (List R) → Trie (List R)
  halve w k t =
      let b : ℕ = w - suc (depth t (bits w k)) in
      graft t (bits w k) (pair (side false b (leaf_at t (bits w k))) (side true b (leaf_at t (bits w k))))

  abbrev pub put : ℕ → R → Trie (List R) → Trie (List R)
  put w r t = graft t (bits w (key r)) (leaf (insert key r (leaf_at t (bits w (key r)))))

  unfoldable pub rounds_at : ℕ → ℕ → ℕ → Trie (List R) → ℕ
  rounds_at C w k t =
      elim (ltb (length (leaf_at t (bits w k))) C) [
        | true ↦ 0
        | false ↦ rounds (w - depth t (bits w k)) k (leaf_at t (bits w k))
      ]

-- "Enter, at a null entry: take a page for the whole run. At a page below C: put the record in order. At a full page: .. the other takes
-- a new one."
unfoldable pub pages_at : {R : Type 0} → ℕ → List R → ℕ
pages_at C [] = 1
pages_at C (x ∷ xs) = elim (ltb (length (x ∷ xs)) C) [ true ↦ 0 | false ↦ 1 ]

abbrev pub filled : {R : Type 0} → List R → ℕ
filled [] = 0
filled (x ∷ xs) = 1

-- "Each non-empty level-0 stretch is a page."
abbrev pub pages : {R : Type 0} → Trie (List R) → ℕ
pages (leaf rs) = filled rs
pages (fork l r) = pages l + pages r
