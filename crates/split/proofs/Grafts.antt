-- A trie of numbers over another, both changed at a key: off the key everything stays, at the key the new subtries stand over each other.
use mathlib.Core.Path.{◌≡◌, refl, sym, subst}
use mathlib.Core.Bool.{true, false}
use mathlib.Core.List.{[], ◌∷◌}
use Prim.Native.Nat.{ℕ, ◌+◌, ◌≤◌, ◌<◌}
use native.Mathlib.Omega.{arith}
use Rattle.tree.specs.Trie.{Trie, leaf, fork, Key, leaf_at, rest, graft, pair}
use Rattle.represent.specs.Labelled.{ind, occ, Over, under}
use Rattle.represent.proofs.LabelLaws.{ind_eq, ind_at, occ_at, occ_graft, over_map}

-- what is halved is a fork
pub forked : {A : Type 0} (t : Trie A) (k : Key) (x y : A) → (l : Trie A) × (r : Trie A) × (graft t k (pair x y) ≡ fork l r)
forked (leaf z) k x y = (leaf x, leaf y, refl)
forked (fork l r) [] x y = (graft l [] (pair x y), r, refl)
forked (fork l r) (false ∷ k) x y = (graft l k (pair x y), r, refl)
forked (fork l r) (true ∷ k) x y = (l, graft r k (pair x y), refl)

-- a split brings the number m in, and nothing else
pub occ_split : (x : ℕ) (b : Trie ℕ) (k : Key) (m : ℕ) → occ x (graft b k (pair (leaf_at b k) m)) ≡ occ x b + ind x m
occ_split x b k m = omega (arith, occ_graft x b k (pair (leaf_at b k) m))

-- a number that b does not have is not the one at the key
pub off_key : (x : ℕ) (b : Trie ℕ) (k : Key) → occ x b ≡ 0 → x ≡ leaf_at b k → ⊥
off_key x b k o e = omega (arith, subst (λ (y : ℕ). 1 ≤ occ y b) (sym e) (occ_at b k))

module _ {A : Type 0} (P Q : ℕ → Trie A → Type 0) where
  over_off : (b : Trie ℕ) (u : Trie A) (k : Key) (c : Trie ℕ) (d : Trie A)
      → ((n : ℕ) (v : Trie A) → ind n (leaf_at b k) < occ n b → P n v → Q n v)
      → Over P b u → Over Q c (graft (under b u k) (rest b k) d) → Over Q (graft b k c) (graft u k d)
  over_off (leaf n) u k c d f h q = q
  over_off (fork l r) (leaf x) k c d f h q = absurd h
  over_off (fork l r) (fork ul ur) [] c d f h q = (
    over_off l ul [] c d (λ n v o. f n v (omega arith)) h.0 q,
    over_map P Q r ur (λ n v o. f n v (omega (arith, ind_at n l []))) h.1,
  )
  over_off (fork l r) (fork ul ur) (false ∷ k) c d f h q =
      (over_off l ul k c d (λ n v o. f n v (omega arith)) h.0 q, over_map P Q r ur (λ n v o. f n v (omega (arith, ind_at n l k))) h.1)
  over_off (fork l r) (fork ul ur) (true ∷ k) c d f h q =
      (over_map P Q l ul (λ n v o. f n v (omega (arith, ind_at n r k))) h.0, over_off r ur k c d (λ n v o. f n v (omega arith)) h.1 q)

  -- where no label stands twice
  pub over_graft : (b : Trie ℕ) (u : Trie A) (k : Key) (c : Trie ℕ) (d : Trie A)
      → ((x : ℕ) → occ x b ≤ 1)
      → ((n : ℕ) (v : Trie A) → 1 ≤ occ n b → (n ≡ leaf_at b k → ⊥) → P n v → Q n v)
      → Over P b u → Over Q c (graft (under b u k) (rest b k) d) → Over Q (graft b k c) (graft u k d)
  over_graft b u k c d once f h q =
      over_off b u k c d (λ n v o. f n v (omega arith) (λ e. omega (arith, once n, ind_eq n (leaf_at b k) e))) h q
