-- A node block's words, changed where they stand.
--   with_entry ws j e == the words ws with entry j set to e
--   with_entries ws start n e == the words ws with n entries from start on set to e 0, e 1, ..
--   parted n h a c j == entry j of a run of n entries of local depth h, of which the first half points to a, the second to c
--   new_depth ws start i == the local depth of the entry i of a half that begins at start, less by one
--   running ws start j  == the largest new depth among the first j entries of the half, 0 for none
--   Shallow θ ws    == ws is a node block of depth at most θ in which no local depth is above the node's
--   Holder θ ws k h == ws is such a block, the bits k number an entry of it, and that entry has the local depth h
--   local_at ws k    == the local depth of the entry of the key k
--   Reached f θ ws key used == ws is such a block for the bits that a key has left after so many
use Rattle.std.specs.Prelude.{◌≡◌, true, false, ℕ, zero, suc, pred, ◌+◌, ◌-◌, ◌*◌, ◌/◌, ◌^◌, ◌≤◌, ◌<◌, List, ltb, length, set}
use Rattle.tree.specs.Node.{Entry}
use Rattle.lists.specs.Lists.{greatest}
use Rattle.lists.specs.Bits.{bits, index}
use Rattle.tree.specs.Trie.{Key}
use Rattle.store.specs.declared.Format.{Format}
use Rattle.store.specs.Format.{width}
use Rattle.node.specs.Node.{depth_word, entry_depth}
use Rattle.split.specs.Block.{number}

unfoldable pub with_entry : List ℕ → ℕ → Entry ℕ → List ℕ
with_entry ws j e = set (set ws (4 + 2 * j) e.0) (5 + 2 * j) e.1

unfoldable pub with_entries : List ℕ → ℕ → ℕ → (ℕ → Entry ℕ) → List ℕ
with_entries ws start zero e = ws
with_entries ws start (suc n) e = with_entry (with_entries ws start n e) (start + n) (e n)

unfoldable pub parted : ℕ → ℕ → ℕ → ℕ → ℕ → Entry ℕ
parted n h a c j = elim (ltb j (n / 2)) [ true ↦ (h, a) | false ↦ (h, c) ]

-- M-103: "a node split keeps each half's largest local depth as a running value while its entries are copied or lowered .. After any
-- entries of a half the value is the largest new depth among them, 0 for none."
abbrev pub new_depth : List ℕ → ℕ → ℕ → ℕ
new_depth ws start i = pred (entry_depth ws 0 (start + i))

unfoldable pub running : List ℕ → ℕ → ℕ → ℕ
running ws start j = greatest j (new_depth ws start)

pub record Shallow (θ : ℕ) (ws : List ℕ) : Type 0 where
  pub low : depth_word ws 0 ≤ θ
  pub all : (j : ℕ) → j < 2 ^ depth_word ws 0 → entry_depth ws 0 j ≤ depth_word ws 0

pub record Holder (θ : ℕ) (ws : List ℕ) (k : Key) (h : ℕ) : Type 0 where
  pub shallow : Shallow θ ws
  pub here : entry_depth ws 0 (index (depth_word ws 0) k) ≡ h
  -- "On a path, the bits used before a node and its H together are at most 32"
  pub left : depth_word ws 0 ≤ length k

-- the local depth of the key's entry
abbrev pub local_at : List ℕ → Key → ℕ
local_at ws k = entry_depth ws 0 (number ws k)

abbrev pub Reached : Format → ℕ → List ℕ → ℕ → ℕ → Type 0
Reached f θ ws key used = Holder θ ws (bits (width f - used) key) (local_at ws (bits (width f - used) key))
