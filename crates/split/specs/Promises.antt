-- What is promised of the operations on node blocks, as types; proofs/Promises.antt proves them.
--   NodeOpsAre == the operations on a node block's words are those of a round
--   OneOf ws start j == the running value is the new depth of one of the entries
--   RunsAsLargest == the running value of a half is 0 for no entry, with one entry more the larger of itself and that entry's new depth, and
--     the new depth of one of the entries, which none of the others passes
use Rattle.std.specs.Prelude.{◌≡◌, List, ℕ, ◌+◌, ◌≤◌, ◌<◌, max}
use Rattle.split.specs.Value.{new_depth, running}
use Rattle.split.specs.Round.{NodeLaws}
use Rattle.split.specs.Block.{node_ops}

abbrev pub NodeOpsAre : Type 0
NodeOpsAre = (θ : ℕ) → 1 ≤ θ → NodeLaws θ (node_ops θ)

-- M-103: "After any entries of a half the value is the largest new depth among them, 0 for none."
pub record OneOf (ws : List ℕ) (start j : ℕ) : Type 0 where
  pub entry : ℕ
  pub within : entry < j
  pub is : running ws start j ≡ new_depth ws start entry

abbrev pub RunsAsLargest : Type 0
RunsAsLargest =
    (ws : List ℕ) (start j : ℕ)
    → (running ws start 0 ≡ 0)
    × (running ws start (j + 1) ≡ max (running ws start j) (new_depth ws start j))
    × ((i : ℕ) → i < j → new_depth ws start i ≤ running ws start j)
    × (1 ≤ j → OneOf ws start j)
