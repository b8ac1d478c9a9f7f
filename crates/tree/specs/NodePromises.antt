-- What is promised of a node's array, each as a type; proofs/NodePromises.antt proves them. z stands for what is past the end of a list.
--   Length      == the array has 2^H entries
--   AtKey       == the entry that the key's next H bits number is the local depth and the label at the key
--   RunWritten  == another trie at the key changes the run at the key, and nothing else
--   Doubled     == an array of one bit more has each entry twice
--   Shrunk      == an array of fewer bits has every 2^(H−K)-th entry
--   LargestIs   == the largest local depth is the height
--   LeftHalf, RightHalf == the two halves of a fork's array, every depth less by one, are the arrays of its two tries
--   Obeys       == every array of a trie keeps the run rule
--   IsTrie      == every array of 2^H entries that keeps the run rule and has the largest depth H is the array of a trie of height H
--   Steps       == stepping from a run to the next goes through the leaves, left to right
use Rattle.std.specs.Prelude.{◌≡◌, List, ◌++◌, map, ℕ, suc, ◌+◌, ◌-◌, ◌*◌, ◌/◌, ◌%◌, ◌^◌, ◌≤◌, ◌<◌, length, get_or, take, drop}
use Rattle.lists.specs.Bits.{index}
use Rattle.tree.specs.Trie.{Trie, fork, Key, height, leaf_at, depth, graft}
use Rattle.tree.specs.Node.{Entry, flatten, largest, RunRule, lowered, runs, begin}

module _ (A : Type 0) where
  abbrev pub Length : Type 0
  Length = (H : ℕ) (t : Trie A) (d : ℕ) → length (flatten H t d) ≡ 2 ^ H

  -- "At a node the next H bits of the key, high bit first, number the entry. The entry's h bits, not H, are then used up."
  abbrev pub AtKey : Type 0
  AtKey = (H : ℕ) (t : Trie A) (k : Key) (z : Entry A) → depth t k ≤ H → get_or (flatten H t 0) (index H k) z ≡ (depth t k, leaf_at t k)

  -- a, the start of the run at the key, and n, its length, as they are computed from the index and the local depth
  abbrev pub RunWritten : Type 0
  RunWritten =
      (H : ℕ) (t s : Trie A) (k : Key) (d a n : ℕ) → depth t k ≤ H → n ≡ 2 ^ (H - depth t k) → a ≡ index H k - index H k % n
      → flatten H (graft t k s) d ≡ take a (flatten H t d) ++ (flatten (H - depth t k) s (d + depth t k) ++ drop (a + n) (flatten H t d))

  abbrev pub Doubled : Type 0
  Doubled =
      (H : ℕ) (t : Trie A) (d : ℕ) (z : Entry A) (j : ℕ) → height t ≤ H → j < 2 ^ suc H
      → get_or (flatten (suc H) t d) j z ≡ get_or (flatten H t d) (j / 2) z

  abbrev pub Shrunk : Type 0
  Shrunk =
      (H K : ℕ) (t : Trie A) (d : ℕ) (z : Entry A) (j : ℕ) → height t ≤ K → K ≤ H → j < 2 ^ K
      → get_or (flatten K t d) j z ≡ get_or (flatten H t d) (j * 2 ^ (H - K)) z

  abbrev pub LargestIs : Type 0
  LargestIs = (H : ℕ) (t : Trie A) (d : ℕ) → height t ≤ H → largest (flatten H t d) ≡ d + height t

  -- "the node first splits on its first bit: every h falls by one"
  abbrev pub LeftHalf : Type 0
  LeftHalf = (H : ℕ) (l r : Trie A) (d : ℕ) → map lowered (take (2 ^ H) (flatten (suc H) (fork l r) d)) ≡ flatten H l d

  abbrev pub RightHalf : Type 0
  RightHalf = (H : ℕ) (l r : Trie A) (d : ℕ) → map lowered (drop (2 ^ H) (flatten (suc H) (fork l r) d)) ≡ flatten H r d

  abbrev pub Obeys : Type 0
  Obeys = (H : ℕ) (t : Trie A) (z : Entry A) → height t ≤ H → RunRule H (flatten H t 0) z

  abbrev pub IsTrie : Type 0
  IsTrie =
      (H : ℕ) (es : List (Entry A)) (z : Entry A) → length es ≡ 2 ^ H → RunRule H es z → largest es ≡ H
      → (t : Trie A) × (height t ≡ H) × (flatten H t 0 ≡ es)

  -- "passing null entries": from an index i in run number n, the next run starts at i − i mod 2^(H−h) + 2^(H−h); the last ends at 2^H
  abbrev pub Steps : Type 0
  Steps =
      (H : ℕ) (t : Trie A) (z : Entry A) → height t ≤ H
      → ((n i : ℕ) → n < length (runs t 0) → begin H (runs t 0) n ≤ i → i < begin H (runs t 0) (suc n)
      → (get_or (flatten H t 0) i z ≡ get_or (runs t 0) n z)
      × (i - i % 2 ^ (H - (get_or (flatten H t 0) i z).0) ≡ begin H (runs t 0) n)
      × (i - i % 2 ^ (H - (get_or (flatten H t 0) i z).0) + 2 ^ (H - (get_or (flatten H t 0) i z).0) ≡ begin H (runs t 0) (suc n)))
      × (begin H (runs t 0) (length (runs t 0)) ≡ 2 ^ H)
