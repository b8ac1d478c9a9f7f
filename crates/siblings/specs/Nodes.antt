-- The nodes of a removal as the code has them.
--   NodesR                  == the node in hand on a level, as it joins
--   rests g rs              == the level g, joined no more, with the nodes reached
--   low_pair s h g p         == the node in hand and p are low enough to be one node
--   may_join f s h k level g p == their links, at level 1, allow it
--   paired θ node hand left == the node in hand joined with its sibling, on its left or on its right
--   spot_is number used last ws == the node in hand as the code has it
--   linked_pair s h level number last ws p left == its links, at level 1, allow a join with p
--   HandFine f θ m used ws == what a join asks of the node in hand, where the stretch below has m bits
--   Noded f k z r hand gone at gone' marks == the level after the code's joins is that of the definition
--   Decided f s h k level g r marks == what the code decided beside the node in hand is what the definition's next turn does
--   NodeMated f s h k level g r marks == what the code found beside the node in hand is what the definition's next turn does
use Rattle.std.specs.Prelude.{◌≡◌, Bool, true, false, ◌||◌, not, List, ◌++◌, ℕ, suc, ◌+◌, ◌-◌, ◌≤◌, max, take, eqb, leb}
use Rattle.split.specs.Value.{Shallow}
use Rattle.store.specs.declared.Format.{Format}
use Rattle.store.specs.declared.Head.{Head}
use Rattle.store.specs.Format.{width}
use Rattle.node.specs.Node.{depth_word}
use Rattle.split.specs.Frame.{node_of}
use Rattle.fuse.specs.Join.{joined}
use Rattle.siblings.specs.Pairs.{in_hand}
use Rattle.remove.specs.Remove.{Reach, Spot, on_left, links_ok, no_nodes, both_nodes, node_joins}
use Rattle.siblings.specs.Outcome.{Found, NodeJoins}
use Rattle.siblings.specs.Marks.{Tracks}

abbrev pub NodesR : Type 0
NodesR = Rattle.remove.specs.Remove.Nodes

abbrev pub rests : NodesR → List Reach → NodesR
rests g rs = record { ok = true; spot = g.spot; released = g.released; reached = rs }

abbrev pub low_pair : List ℕ → Head → NodesR → ℕ → Bool
low_pair s h g p = leb (suc (max (depth_word g.spot.block 0) (depth_word (node_of s p) 0))) h.theta

abbrev pub may_join : Format → List ℕ → Head → ℕ → ℕ → NodesR → ℕ → Bool
may_join f s h k level g p = not (eqb level 1) || links_ok s h g.spot p (on_left (width f) k g.spot.used)

pub record NodeMated (f : Format) (s : List ℕ) (h : Head) (k level : ℕ) (g : NodesR) (r : Found) (marks : List ℕ) : Type 0 where
  pub reaches : List Reach
  pub tracked : r.ok ≡ true → Tracks (width f) k reaches marks
  pub lost : r.ok ≡ false → (m q n : ℕ) → node_joins f s h k level m q (suc n) g ≡ no_nodes
  pub none : r.ok ≡ true → r.found ≡ false → (m q n : ℕ) → node_joins f s h k level m q (suc n) g ≡ rests g reaches
  pub tall : r.ok ≡ true → r.found ≡ true → low_pair s h g r.pointer ≡ false → (m q n : ℕ)
      → node_joins f s h k level m q (suc n) g ≡ rests g reaches
  pub apart : r.ok ≡ true → r.found ≡ true → low_pair s h g r.pointer ≡ true → may_join f s h k level g r.pointer ≡ false → (m q n : ℕ)
      → node_joins f s h k level m q (suc n) g ≡ no_nodes
  pub on : r.ok ≡ true → r.found ≡ true → low_pair s h g r.pointer ≡ true → may_join f s h k level g r.pointer ≡ true → (m q n : ℕ)
      → node_joins f s h k level m q (suc n) g
      ≡ node_joins f s h k level m q n (both_nodes f s h k m q g (on_left (width f) k g.spot.used) r.pointer reaches)

unfoldable pub paired : ℕ → List ℕ → List ℕ → Bool → List ℕ
paired θ node hand left = elim left [ true ↦ joined θ node hand | false ↦ joined θ hand node ]

abbrev pub spot_is : ℕ → ℕ → ℕ → List ℕ → Spot
spot_is number used last ws = record { number = number; used = used; last = last; block = ws }

unfoldable pub linked_pair : List ℕ → Head → ℕ → ℕ → ℕ → List ℕ → ℕ → Bool → Bool
linked_pair s h level number last ws p left = not (eqb level 1) || links_ok s h (in_hand number last ws) p left

pub record Decided (f : Format) (s : List ℕ) (h : Head) (k level : ℕ) (g : NodesR) (r : Found) (marks : List ℕ) : Type 0 where
  pub reaches : List Reach
  pub tracked : r.ok ≡ true → Tracks (width f) k reaches marks
  pub lost : r.ok ≡ false → (m q n : ℕ) → node_joins f s h k level m q (suc n) g ≡ no_nodes
  pub none : r.ok ≡ true → r.found ≡ false → (m q n : ℕ) → node_joins f s h k level m q (suc n) g ≡ rests g reaches
  pub on : r.ok ≡ true → r.found ≡ true → (m q n : ℕ)
      → node_joins f s h k level m q (suc n) g
      ≡ node_joins f s h k level m q n (both_nodes f s h k m q g (on_left (width f) k g.spot.used) r.pointer reaches)

pub record HandFine (f : Format) (θ m used : ℕ) (ws : List ℕ) : Type 0 where
  pub shallow : Shallow θ ws
  pub reaches : m - used ≤ depth_word ws 0
  pub left : used + depth_word ws 0 ≤ width f

pub record Noded (f : Format) (k : ℕ) (z : NodesR) (r : NodeJoins) (hand gone : List ℕ) (at : ℕ) (gone' marks : List ℕ) : Type 0 where
  pub ok_is : r.ok ≡ z.ok
  pub spot_is : r.ok ≡ true → z.spot ≡ spot_is r.number r.used r.last hand
  pub gone_are : r.ok ≡ true → take r.end gone' ≡ take at gone ++ z.released
  pub tracked : r.ok ≡ true → Tracks (width f) k z.reached marks
