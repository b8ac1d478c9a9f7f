-- Where a done enter writes, on any words, damaged ones too. Document 01, "The store" and "Descent and splits". Besides counts, root and
-- levels in the head these are the nodes of the key's path, the back link of the node behind the terminal one, the key's own page, and the
-- blocks newly taken. ("words beyond the size set up are never touched", the length, the sizes and the spare words are in `Within`.)
--   Framed f s t path page behind ns ps == t is s with words written only there, where the key has this path, this page and this node behind,
--     and the nodes ns and the pages ps are newly taken
--   EnterFrame      == a done enter writes only there
use Rattle.std.specs.Prelude.{◌≡◌, List, ℕ, ◌≤◌, take, set}
use Rattle.store.specs.declared.Format.{Format}
use Rattle.store.specs.declared.Item.{Item}
use Rattle.store.specs.Head.{head_of}
use Rattle.store.specs.Released.{nodes_to_come, pages_to_come}
use Rattle.represent.specs.Labelled.{count as counted}
use Rattle.split.specs.Frame.{node_of, page_of}
use Rattle.split.specs.Round.{Place}
use Rattle.insert.specs.Enter.{start_of, plan_for, enter_of}
use Rattle.insert.specs.Fine.{Off, behind_in}

pub record Framed (f : Format) (s t : List ℕ) (path : List Place) (page behind : ℕ) (ns ps : List ℕ) : Type 0 where
  pub nodes_low : (head_of s).nodes_taken ≤ (head_of t).nodes_taken
  pub nodes_high : (head_of t).nodes_taken ≤ (head_of s).node_blocks
  pub pages_low : (head_of s).pages_taken ≤ (head_of t).pages_taken
  pub pages_high : (head_of t).pages_taken ≤ (head_of s).page_blocks
  -- "the left half keeps its number, the right takes a new node": a node that is neither on the path, nor new, nor the one behind, stays
  pub node_same : (x : ℕ) → 1 ≤ x → x ≤ (head_of s).node_blocks → counted x ns ≡ 0 → Off x path
      → (x ≡ behind → ⊥) → node_of t x ≡ node_of s x
  -- "Level-1 nodes are linked both ways in key order": of the node behind, at most the back link is another
  pub behind_same : 1 ≤ behind → (b : ℕ) × (node_of t behind ≡ set (node_of s behind) 2 b)
  -- "The zero half keeps the page, and the other takes a new one": a page that is neither the key's own nor new stays
  pub page_same : (p : ℕ) → 1 ≤ p → p ≤ (head_of s).page_blocks → counted p ps ≡ 0 → (p ≡ page → ⊥)
      → page_of f t p ≡ page_of f s p

abbrev pub EnterFrame : Type 0
EnterFrame =
    (f : Format) (s : List ℕ) (it : Item) → (enter_of f s it).reply.number ≡ 0
    → Framed f s (enter_of f s it).words (start_of f s it).path (start_of f s it).page (behind_in s (start_of f s it).path)
    (take (plan_for f s it).nodes (nodes_to_come s)) (take (plan_for f s it).pages (pages_to_come f s))
