-- The link tests of two level-1 nodes to be joined, the left one and the right one alike, whichever of them is in hand.
--   pair_ok s h lb lf rb rf a b c d == the left node, of those from a to b, has the links lb and lf, the right one, from c to d, the links rb and rf
--   in_hand number last ws    == the node in hand, for its links
use Rattle.std.specs.Prelude.{Bool, true, false, ◌&&◌, not, List, ℕ, eqb}
use Rattle.store.specs.declared.Head.{Head}
use Rattle.remove.specs.Remove.{Spot, beside_ok}

unfoldable pub pair_ok : List ℕ → Head → ℕ → ℕ → ℕ → ℕ → ℕ → ℕ → ℕ → ℕ → Bool
pair_ok s h lb lf rb rf a b c d =
    eqb lf c && eqb rb b && not (eqb rf a) && not (eqb lb c) && beside_ok s h lb a a true && beside_ok s h rf c d false

abbrev pub in_hand : ℕ → ℕ → List ℕ → Spot
in_hand number last ws = record { number = number; used = 0; last = last; block = ws }
