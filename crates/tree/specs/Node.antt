-- A node's entries: what stands below it, written out as an array. Document 01, "Descent and splits".
--   Entry A          == a local depth and a pointer
--   flatten H t d    == the 2^H entries of a trie t of height at most H, whose root has depth d
--   largest es       == the largest local depth, 0 for none
--   RunRule H es z   == the rule of an array of 2^H entries; z stands for what is past its end
--   lowered e        == an entry with its local depth less by one
--   runs t d         == the leaves of t, each with its depth, left to right
--   begin H es n     == where run number n of an array of 2^H entries starts, if es are its runs
use Rattle.std.specs.Prelude.{◌≡◌, List, [], ◌∷◌, ◌++◌, ℕ, zero, suc, pred, ◌+◌, ◌-◌, ◌%◌, ◌^◌, ◌≤◌, ◌<◌, max, get_or, replicate}
use Rattle.tree.specs.Trie.{Trie, leaf, fork}

abbrev pub Entry : Type 0 → Type 0
Entry A = ℕ × A

module _ {A : Type 0} where
  -- "A local depth h covers an aligned run of 2^(H−h) equal entries"
  -- (The second clause stands for nothing: it keeps the length where the trie is too high.)
  abbrev pub flatten : ℕ → Trie A → ℕ → List (Entry A)
  flatten H (leaf x) d = replicate (2 ^ H) (d, x)
  flatten zero (fork l r) d = flatten zero l (suc d)
  flatten (suc H) (fork l r) d = flatten H l (suc d) ++ flatten H r (suc d)

  -- "the largest h equals H"
  abbrev pub largest : List (Entry A) → ℕ
  largest [] = 0
  largest (e ∷ es) = max e.0 (largest es)

  -- each local depth h is at most H, and the aligned run of 2^(H−h) entries around it is constant
  unfoldable pub RunRule : ℕ → List (Entry A) → Entry A → Type 0
  RunRule H es z =
      (i : ℕ) → i < 2 ^ H
      → ((get_or es i z).0 ≤ H)
      × ((j : ℕ) → j < 2 ^ (H - (get_or es i z).0) → get_or es (i - i % 2 ^ (H - (get_or es i z).0) + j) z ≡ get_or es i z)

  -- "every h falls by one"
  abbrev pub lowered : Entry A → Entry A
  lowered e = (pred e.0, e.1)

  abbrev pub runs : Trie A → ℕ → List (Entry A)
  runs (leaf x) d = (d, x) ∷ []
  runs (fork l r) d = runs l (suc d) ++ runs r (suc d)

  abbrev pub begin : ℕ → List (Entry A) → ℕ → ℕ
  begin H es zero = 0
  begin H [] (suc n) = 0
  begin H (e ∷ es) (suc n) = 2 ^ (H - e.0) + begin H es n
