-- The levels of a represented store by number: level 0 is the trie below, level l + 1 the trie of number l in the list of levels.
--   level_of u bs l == the trie of level l, where the levels bs stand over u
use mathlib.Core.Path.{◌≡◌, refl, subst}
use mathlib.Core.List.{List, [], ◌∷◌, ◌++◌}
use Prim.Native.Nat.{ℕ, zero, suc, ◌+◌, ◌≤◌, ◌<◌}
use native.Mathlib.Omega.{arith}
use native.Mathlib.Decide.{dec_le}
use lib.ListN.{length, get_or}
use Rattle.lists.specs.Bits.{bits}
use Rattle.tree.specs.Trie.{Trie, leaf, leaf_at}
use Rattle.search.specs.declared.Step.{Step}
use Rattle.search.specs.Descent.{no_step}
use Rattle.represent.specs.Labelled.{occ, occs, Over}
use Rattle.represent.specs.Image.{NodeIs}
use Rattle.represent.specs.Rep.{Nodes}
use Rattle.represent.specs.Promises.{path_steps}

abbrev pub level_of : Trie ℕ → List (Trie ℕ) → ℕ → Trie ℕ
level_of u bs zero = u
level_of u [] (suc l) = u
level_of u (b ∷ bs) (suc l) = level_of b bs l

-- a label of a level is a label of some level, and conversely
pub level_part : (u : Trie ℕ) (bs : List (Trie ℕ)) (l n : ℕ) → l < length bs → occ n (level_of u bs (suc l)) ≤ occs n bs
level_part u [] l n q = absurd (omega arith)
level_part u (b ∷ bs) zero n q = omega arith
level_part u (b ∷ bs) (suc l) n q = omega (arith, level_part b bs l n (omega arith))

pub level_in : (u : Trie ℕ) (bs : List (Trie ℕ)) (n : ℕ) → 1 ≤ occs n bs → (l : ℕ) × (l < length bs) × (1 ≤ occ n (level_of u bs (suc l)))
level_in u [] n o = absurd (omega arith)
level_in u (b ∷ bs) n o =
    elim (dec_le 1 (occ n b)) [
      | yes p ↦ (0, omega arith, p)
      | no p ↦ let z = level_in b bs n (omega arith) in (suc z.0, omega (arith, z.1), z.2)
    ]

module _ (θ : ℕ) (node : ℕ → List ℕ) (root levels : ℕ) where
  -- each level stands over the one below it
  pub level_over : (k : ℕ) (u : Trie ℕ) (bs : List (Trie ℕ)) (l m : ℕ) → Nodes θ node root levels k u bs → l < length bs → m ≡ k + l
      → Over (λ n v. NodeIs θ (node n) (suc m) v) (level_of u bs (suc l)) (level_of u bs l)
  level_over k u [] l m h q e = absurd (omega arith)
  level_over k u (b ∷ bs) zero m h q e =
      let e' : k ≡ m = omega arith in
      subst (λ j. Over (λ n v. NodeIs θ (node n) (suc j) v) b u) e' h.0
  level_over k u (b ∷ bs) (suc l) m h q e = level_over (suc k) b bs l m h.1 (omega arith) (omega arith)

  -- the last is the root alone
  pub level_last : (k : ℕ) (u : Trie ℕ) (bs : List (Trie ℕ)) (l : ℕ) → Nodes θ node root levels k u bs → l ≡ length bs
      → level_of u bs l ≡ leaf root
  level_last k u [] zero h e = h.0
  level_last k u [] (suc l) h e = h.0
  level_last k u (b ∷ bs) zero h e = absurd (omega arith)
  level_last k u (b ∷ bs) (suc l) h e = level_last (suc k) b bs l h.1 (omega arith)

-- the steps of a key, lowest first
pub step_node : (W k : ℕ) (u : Trie ℕ) (bs : List (Trie ℕ)) (ys : List Step) (l : ℕ) → l < length bs
    → (get_or (path_steps W k u bs ++ ys) l no_step).node ≡ leaf_at (level_of u bs (suc l)) (bits W k)
step_node W k u [] ys l q = absurd (omega arith)
step_node W k u (b ∷ bs) ys zero q = refl
step_node W k u (b ∷ bs) ys (suc l) q = step_node W k b bs ys l (omega arith)
