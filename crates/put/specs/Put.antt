-- What halving a page asks of the words, and a page cut down.
--   Halvable f s C from to i == at from and at to are two page blocks of capacity C that do not overlap; the one at from has at most C
--     records, and i is no more than their number
--   cut_to f C n pg == the page block pg with its first n records and no others; C is its capacity
use Rattle.std.specs.Prelude.{◌⊎◌, List, ◌∷◌, ◌++◌, ℕ, ◌+◌, ◌-◌, ◌*◌, ◌≤◌, length, take, drop, replicate}
use Rattle.store.specs.declared.Format.{Format}
use Rattle.store.specs.Format.{words}
use Rattle.store.specs.Head.{largest_capacity, word, page_words}

pub record Halvable (f : Format) (s : List ℕ) (C from to i : ℕ) : Type 0 where
  pub small : C ≤ largest_capacity
  pub from_in : from + page_words f C ≤ length s
  pub to_in : to + page_words f C ≤ length s
  pub apart : (from + page_words f C ≤ to) ⊎ (to + page_words f C ≤ from)
  pub fits : word s from ≤ C
  pub within : i ≤ word s from

unfoldable pub cut_to : Format → ℕ → ℕ → List ℕ → List ℕ
cut_to f C n pg = n ∷ (take (words f * n) (drop 1 pg) ++ replicate (words f * (C - n)) 0)
