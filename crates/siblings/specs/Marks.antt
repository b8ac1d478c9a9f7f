-- Nodes that are reached, noted by their numbers: the two-prefix test of a removal in one look. All prefixes that one removal reaches nodes under are
-- the key's first bits, or siblings of them; so a byte says which.
--   mark sib used         == a node reached after the used bits: of the key, or of the sibling of so many bits
--   mark_at used m         == the same on the way to the sibling of m bits
--   bits_under W k sib used == those bits
--   Known W k marks x     == the node of the reach x is marked so
--   Tracks W k rs marks   == just the nodes of the reaches rs are marked, each as it was reached
--   Passed f s h marks    == each marked node was found sound, after the bits of its mark and at the level that its block has
--   SoughtIs W k r z marks == what the code found is what the definition finds, and the marks are those of its reaches
use Rattle.std.specs.Prelude.{◌≡◌, Bool, true, false, List, ℕ, ◌+◌, ◌*◌, eqb, get_or}
use Rattle.lists.specs.Lists.{All}
use Rattle.store.specs.declared.Format.{Format}
use Rattle.store.specs.declared.Head.{Head}
use Rattle.store.specs.Head.{node_start}
use Rattle.node.specs.Node.{level_word}
use Rattle.search.specs.Descent.{sound_node}
use Rattle.remove.specs.Remove.{Reach, Sought, prefix, sibling_key}
use Rattle.siblings.specs.Outcome.{Found}

unfoldable pub mark : Bool → ℕ → ℕ
mark false used = 2 * used + 1
mark true used = 2 * used + 2

abbrev pub mark_at : ℕ → ℕ → ℕ
mark_at used m = mark (eqb used m) used

unfoldable pub bits_under : ℕ → ℕ → Bool → ℕ → ℕ
bits_under W k false used = prefix W k used
bits_under W k true used = prefix W (sibling_key W k used) used

pub record Known (W k : ℕ) (marks : List ℕ) (x : Reach) : Type 0 where
  pub side : Bool
  pub is : get_or marks x.node 0 ≡ mark side x.used
  pub bits_are : x.bits ≡ bits_under W k side x.used

pub record Tracks (W k : ℕ) (rs : List Reach) (marks : List ℕ) : Type 0 where
  pub known : All (Known W k marks) rs
  pub others : (n : ℕ) → All (λ x. x.node ≡ n → ⊥) rs → get_or marks n 0 ≡ 0

pub record Passed (f : Format) (s : List ℕ) (h : Head) (marks : List ℕ) : Type 0 where
  pub sound : (n : ℕ) (sib : Bool) (used : ℕ) → get_or marks n 0 ≡ mark sib used → sound_node f s h (level_word s (node_start h n)) n used ≡ true

pub record SoughtIs (W k : ℕ) (r : Found) (z : Sought) (marks : List ℕ) : Type 0 where
  pub ok_is : r.ok ≡ z.ok
  pub found_is : r.found ≡ z.found
  pub pointer_is : r.pointer ≡ z.pointer
  pub tracks : z.ok ≡ true → Tracks W k z.reached marks
