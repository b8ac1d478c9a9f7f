-- The order of the reply words, as rows of one table: each reply has its fields numbered, and the row says where they go. `proofs/Checks.antt`
-- proves that all hold.
--   Check  == a row: the words of a reply, and what they are to be
--   holds  == they are
--   table  == the rows
use Rattle.std.specs.Prelude.{Bool, true, false, ◌&&◌, List, [], ◌∷◌, ℕ, eqb}
use Rattle.exports.specs.Reply.{size_values, enter_values, record_values, range_values, summary_values, balance_values, key_values, label_values}

pub record Check : Type 0 where
  pub words : List ℕ
  pub are : List ℕ

abbrev same : List ℕ → List ℕ → Bool
same [] [] = true
same [] (y ∷ ys) = false
same (x ∷ xs) [] = false
same (x ∷ xs) (y ∷ ys) = eqb x y && same xs ys

unfoldable pub holds : Check → Bool
holds c = same c.words c.are

unfoldable pub table : List Check
table =
    -- "Set-up gives the size."
    record { words = size_values (record { number = 0; size = 1 }); are = 1 ∷ [] }
    -- "Enter gives key, levels, nodes taken, pages taken."
    ∷ record { words = enter_values (record { number = 0; key = 1; levels = 2; nodes = 3; pages = 4 }); are = 1 ∷ 2 ∷ 3 ∷ 4 ∷ [] }
    -- "Find and next give the record.": key, price, lease days, last day
    ∷ record {
      words = record_values (record { number = 0; item = record { key = 1; price = 2; lease = 3; last = 4 } });
      are = 1 ∷ 2 ∷ 3 ∷ 4 ∷ [];
    }
    -- "gives the count and the range's first key not written, or 0"
    ∷ record { words = range_values (record { number = 0; count = 1; more = 2 }); are = 1 ∷ 2 ∷ [] }
    -- "Summary gives count, total .., earliest key."
    ∷ record { words = summary_values (record { number = 0; count = 1; total = 2; key = 3 }); are = 1 ∷ 2 ∷ 3 ∷ [] }
    ∷ record { words = balance_values (record { number = 0; value = 1 }); are = 1 ∷ [] }
    ∷ record { words = key_values (record { number = 0; key = 1 }); are = 1 ∷ [] }
    -- section, row, place, letter
    ∷ record { words = label_values (record { number = 0; section = 1; row = 2; place = 3; letter = 4 }); are = 1 ∷ 2 ∷ 3 ∷ 4 ∷ [] }
    ∷ []
