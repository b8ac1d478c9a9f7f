-- The path that a climb hands back, by the numbers alone: a run with room is one bit deeper; a run at θ stays at θ, its node is split, and
-- the half that the key is in takes up the node's first bit; above a split root stands the new one.
--   turned θ k ns path == the path of the key k after a climb, where the numbers ns are taken next
use mathlib.Core.Path.{◌≡◌}
use mathlib.Core.Bool.{true, false}
use mathlib.Core.List.{List, [], ◌∷◌}
use Prim.Native.Nat.{ℕ, ◌≤◌, ◌<◌}
use lib.Dec.{ltb}
use borrow.Author.Tests.{lt-ltb, le-ltb}
use Rattle.tree.specs.Trie.{Key}
use Rattle.represent.specs.Labelled.{first, behind}
use Rattle.split.specs.Round.{Place, deeper, in_half}

unfoldable pub turned : ℕ → Key → List ℕ → List Place → List Place
turned θ k ns [] = record { at = first ns; bits = k; depth = 1 } ∷ []
turned θ k ns (p ∷ path) =
    elim (ltb p.depth θ) [ true ↦ deeper p ∷ path | false ↦ in_half θ p (first ns) ∷ turned θ k (behind ns) path ]

module _ (θ : ℕ) (k : Key) (ns : List ℕ) (p : Place) (path : List Place) where
  pub turned_slack : p.depth < θ → turned θ k ns (p ∷ path) ≡ deeper p ∷ path
  unfolding turned
  turned_slack h = rw (lt-ltb p.depth θ h, turned)

  pub turned_full : θ ≤ p.depth → turned θ k ns (p ∷ path) ≡ in_half θ p (first ns) ∷ turned θ k (behind ns) path
  unfolding turned
  turned_full h = rw (le-ltb p.depth θ h, turned)
