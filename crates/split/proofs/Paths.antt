-- The path of a key after one level of a climb is its path in the new tries. At a node that has room the run is one bit deeper; at a node
-- that splits the key's next bit chooses the half.
use mathlib.Core.Path.{◌≡◌, refl, sym, ap, ap₂}
use mathlib.Core.List.{List, ◌∷◌}
use Prim.Native.Nat.{ℕ, ◌-◌, ◌≤◌}
use native.Mathlib.Omega.{arith}
use Rattle.tree.specs.Trie.{Trie, Key, leaf_at, depth, graft, pair}
use Rattle.tree.proofs.TrieLaws.{leaf_at_graft, depth_split, rest_split}
use Rattle.split.specs.Round.{Place, place_at, path_of, deeper, in_half}

pub place_same : {at at' : ℕ} {bits bits' : Key} {depth depth' : ℕ} → at ≡ at' → bits ≡ bits' → depth ≡ depth'
    → ◌≡◌ {A = Place} (record { at = at; bits = bits; depth = depth }) (record { at = at'; bits = bits'; depth = depth' })
place_same a b c = rw (a, b, c)

module _ (u b : Trie ℕ) (bs : List (Trie ℕ)) (key : Key) (a c : ℕ) (deep : depth b key ≤ depth u key) where
  pub slack_path : deeper (place_at u b key) ∷ path_of b bs key ≡ path_of (graft u key (pair a c)) (b ∷ bs) key
  slack_path = ap (λ p. p ∷ path_of b bs key) (place_same refl refl (omega (arith, depth_split u key a c)))

  pub full_path : (θ m : ℕ) (path : List Place) → depth u key - depth b key ≤ θ → θ ≤ depth u key - depth b key
      → path ≡ path_of (graft b key (pair (leaf_at b key) m)) bs key
      → in_half θ (place_at u b key) m ∷ path ≡ path_of (graft u key (pair a c)) (graft b key (pair (leaf_at b key) m) ∷ bs) key
  full_path θ m path small large e =
      ap₂ (λ p ps. p ∷ ps)
      (place_same (sym (leaf_at_graft b key (pair (leaf_at b key) m))) (sym (rest_split b key (leaf_at b key) m))
      (omega (arith, depth_split u key a c, depth_split b key (leaf_at b key) m)))
      e
