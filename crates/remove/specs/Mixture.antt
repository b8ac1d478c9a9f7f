-- Entries and removals mixed. Document 02, M-113.
--   Partition used ns taken n == the number n is exactly one of: in use, once; released, once, as one of ns; not taken
--   BlocksOnce f s S == so is every node block and every page block of a store that holds S
--   SameTree h t     == the words t hold the same tree as the words of h, block numbers apart
--   Undone f         == a new key accepted and then removed leaves the tree of before
use Rattle.std.specs.Prelude.{◌≡◌, ◌⊎◌, List, map, ℕ, ◌≤◌, ◌<◌}
use Rattle.tree.specs.Trie.{shape}
use Rattle.store.specs.declared.Format.{Format}
use Rattle.store.specs.declared.Item.{Item}
use Rattle.store.specs.Head.{head_of}
use Rattle.store.specs.Released.{released_nodes, released_pages}
use Rattle.represent.specs.Labelled.{occ, occs, count}
use Rattle.represent.specs.Rep.{numbers, contents, Holds}
use Rattle.insert.specs.Enter.{enter_of}
use Rattle.remove.specs.Remove.{remove_of}

abbrev pub Partition : (ℕ → ℕ) → List ℕ → ℕ → ℕ → Type 0
Partition used ns taken n =
    ((used n ≡ 1) × (count n ns ≡ 0) × (n ≤ taken))
    ⊎ (((used n ≡ 0) × (count n ns ≡ 1) × (n ≤ taken)) ⊎ ((used n ≡ 0) × (count n ns ≡ 0) × (taken < n)))

module _ (f : Format) (s : List ℕ) (S : List Item) where
  -- "Blocks in use match that tree, and every remaining block is unused or released exactly once."
  abbrev pub BlocksOnce : Type 0
  BlocksOnce =
      (h : Holds f s S)
      → ((n : ℕ) → 1 ≤ n → n ≤ (head_of s).node_blocks → Partition (λ n. occs n h.bs) (released_nodes s) (head_of s).nodes_taken n)
      × ((p : ℕ) → 1 ≤ p → p ≤ (head_of s).page_blocks
      → Partition (λ p. occ p (numbers h.b0)) (released_pages f s) (head_of s).pages_taken p)

module _ {f : Format} {s : List ℕ} {S : List Item} (h : Holds f s S) where
  -- the same stretches with their records, and the same nodes on each level
  pub record SameTree (t : List ℕ) : Type 0 where
    pub holds : Holds f t S
    pub records : contents holds.b0 ≡ contents h.b0
    pub nodes : map shape holds.bs ≡ map shape h.bs

-- "A new key accepted and then removed, with nothing else entered or removed between, leaves the tree of before."
abbrev pub Undone : Format → Type 0
Undone f =
    (s : List ℕ) (S : List Item) (it : Item) (h : Holds f s S) → (enter_of f s it).reply.number ≡ 0
    → SameTree h (remove_of f (enter_of f s it).words it.key).words
