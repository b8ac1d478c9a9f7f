-- The levels of a removal's plan as the code has them.
--   NumbersAre levels numbers xs == the numbers of the levels' nodes xs
--   LevelsAre s θ changed numbers blocks levels xs == the levels' nodes xs as they are carried
--   StaysIn s h changed levels numbers == the nodes that stay as they are have their blocks in the store
--   level_nodes f s h k level t m q joins rs == one level over a stretch below of m bits and the pointer q, after its joins if that one joined
--   Turned f k θ l z w r blocks gone gone' marks == the level l, counted from 0, after the code's turn is that of the definition
--   Levelled s h ts z r numbers blocks gone == the levels after the code's turns are those of the definition
use Rattle.std.specs.Prelude.{◌≡◌, Bool, true, false, List, [], ◌++◌, ℕ, ◌+◌, ◌≤◌, ◌<◌, ltb, length, get_or, take}
use Rattle.store.specs.declared.Format.{Format}
use Rattle.store.specs.declared.Head.{Head}
use Rattle.store.specs.Format.{width}
use Rattle.store.specs.Head.{word, node_words, node_start}
use Rattle.search.specs.declared.Step.{Step}
use Rattle.remove.specs.Remove.{Reach, Spot, no_spot, spot_over, node_joins, Levels, first_spot, first_used}
use Rattle.siblings.specs.Marks.{Tracks}
use Rattle.siblings.specs.Nodes.{NodesR}
use Rattle.apply.specs.Carried.{block_in, LevelIs}
use Rattle.levels.specs.Outcome.{Rise}
use Rattle.levels.specs.Outcome.{LevelJoins}

pub record NumbersAre (levels : ℕ) (numbers : List ℕ) (xs : List Spot) : Type 0 where
  pub long : length xs ≡ levels
  pub each : (l : ℕ) → l < levels → (get_or xs l no_spot).number ≡ word numbers l

pub record LevelsAre (s : List ℕ) (θ changed : ℕ) (numbers blocks : List ℕ) (levels : ℕ) (xs : List Spot) : Type 0 where
  pub long : length xs ≡ levels
  pub each : (l : ℕ) → l < levels → LevelIs s θ changed numbers blocks l (get_or xs l no_spot)

abbrev pub StaysIn : List ℕ → Head → ℕ → ℕ → List ℕ → Type 0
StaysIn s h changed levels numbers =
    (l : ℕ) → changed ≤ l → l < levels → node_start h (word numbers l) + node_words h.theta ≤ length s

abbrev pub level_nodes : Format → List ℕ → Head → ℕ → ℕ → Step → ℕ → ℕ → Bool → List Reach → NodesR
level_nodes f s h k level t m q joins rs =
    elim joins [
      | true ↦ node_joins f s h k level m q t.used (record { ok = true; spot = spot_over f s h k m q t; released = []; reached = rs })
      | false ↦ record { ok = true; spot = spot_over f s h k m q t; released = []; reached = rs }
    ]

pub record Turned (f : Format) (k θ l : ℕ) (z : NodesR) (w r : Rise) (blocks gone gone' marks : List ℕ) : Type 0 where
  pub ok_is : r.ok ≡ z.ok
  pub number_is : r.ok ≡ true → z.spot.number ≡ r.pointer
  pub used_is : r.ok ≡ true → z.spot.used ≡ r.bits
  pub block_is : r.ok ≡ true → z.spot.block ≡ block_in θ blocks l
  pub gone_are : r.ok ≡ true → take r.end gone' ≡ take w.end gone ++ z.released
  pub tracked : r.ok ≡ true → Tracks (width f) k z.reached marks

pub record Levelled (s : List ℕ) (h : Head) (ts : List Step) (z : Levels) (r : LevelJoins) (numbers blocks gone : List ℕ) : Type 0 where
  pub ok_is : r.ok ≡ z.ok
  pub levels_are : r.ok ≡ true → LevelsAre s h.theta r.changed numbers blocks h.levels z.spots
  pub gone_are : r.ok ≡ true → z.released ≡ take r.end gone
  pub linked_is : r.ok ≡ true → r.linked ≡ ltb (first_spot z.spots).used (first_used ts)
