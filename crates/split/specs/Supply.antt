-- The blocks of one kind that may be taken: the released ones, and behind them the unused ones. Document 02, M-106.
--   to_come next many name taken cap == their numbers, in the order in which they are taken: `many` are released, the last one is `name`,
--     and of `cap` blocks `taken` are taken
--   Supplied block form blank next many name taken cap == the released ones are chained and have the words of their form, the unused ones
--     are blank
use Rattle.std.specs.Prelude.{◌≡◌, List, ◌++◌, ℕ, ◌-◌, ◌≤◌, ◌<◌}
use Rattle.store.specs.Released.{chain_of, up_from}
use Rattle.represent.specs.Labelled.{count}
use Rattle.represent.specs.Rep.{Chained}

abbrev pub to_come : (ℕ → ℕ) → ℕ → ℕ → ℕ → ℕ → List ℕ
to_come next many name taken cap = chain_of next many name ++ up_from (cap - taken) taken

pub record Supplied (block : ℕ → List ℕ) (form : ℕ → List ℕ) (blank : List ℕ) (next : ℕ → ℕ) (many name taken cap : ℕ) : Type 0 where
  pub fits : taken ≤ cap
  pub inside : (x : ℕ) → 1 ≤ count x (chain_of next many name) → (1 ≤ x) × (x ≤ cap)
  pub chained : Chained block form next many name
  pub unused : (x : ℕ) → taken < x → x ≤ cap → block x ≡ blank
