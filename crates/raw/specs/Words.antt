-- Lent words, written and compared.
--   written g s n   == s with its first n words those of g
--   alike a i b j n == the n words of a from number i on are those of b from number j on
--   all_from s i v   == every word of s from number i on is v
use Rattle.std.specs.Prelude.{Bool, true, false, List, ℕ, ◌+◌, ◌-◌, ltb, eqb, length}
use Rattle.lists.specs.Lists.{tab, every}
use Rattle.store.specs.Head.{word}

unfoldable pub written : (ℕ → ℕ) → List ℕ → ℕ → List ℕ
written g s n = tab (length s) (λ i. elim (ltb i n) [ true ↦ g i | false ↦ word s i ])

unfoldable pub alike : List ℕ → ℕ → List ℕ → ℕ → ℕ → Bool
alike a i b j n = every n (λ t. eqb (word a (i + t)) (word b (j + t)))

unfoldable pub all_from : List ℕ → ℕ → ℕ → Bool
all_from s i v = every (length s - i) (λ t. eqb (word s (i + t)) v)
