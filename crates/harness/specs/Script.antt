-- Calls and the replies to them, written as tables.
--   cell_of rows i j == a number of a table, 0 outside it
--   call_at rows i, reply_at rows i == the call of a row: kind and four numbers; the reply: number and four values
--   Played, both s t == the words of the store and of the tally
--   played_call p c x == a call, its reply compared with x
--   played_row rows p i == the call of a row; a row of kind 9 writes a word
--   played rows p i n == the n rows from row i on
--   played_in rows p n == all rows, on the first n words of the store
use Rattle.std.specs.Prelude.{true, false, List, [], ◌++◌, ℕ, min, eqb, leb, length, set, get_or, take, drop}
use Rattle.store.specs.Head.{word}
use Rattle.raw.specs.Steps.{steps}
use Rattle.harness.specs.declared.calls.Call.{Call}
use Rattle.harness.specs.declared.calls.Reply.{Reply}
use Rattle.harness.specs.Calls.{kind_of, marked, ran_of, outcome}
use Rattle.harness.specs.Tally.{judged_outcome}

unfoldable pub cell_of : List (List ℕ) → ℕ → ℕ → ℕ
cell_of rows i j = word (get_or rows i []) j

unfoldable pub call_at : List (List ℕ) → ℕ → Call
call_at rows i = record { kind = kind_of (cell_of rows i 0); a = cell_of rows i 1; b = cell_of rows i 2; c = cell_of rows i 3; d = cell_of rows i 4 }

unfoldable pub reply_at : List (List ℕ) → ℕ → Reply
reply_at rows i = record { number = cell_of rows i 5; a = cell_of rows i 6; b = cell_of rows i 7; c = cell_of rows i 8; d = cell_of rows i 9 }

pub record Played : Type 0 where
  pub store : List ℕ
  pub tally : List ℕ

abbrev pub both : List ℕ → List ℕ → Played
both s t = record { store = s; tally = t }

-- a range's third number is the words of its output
unfoldable pub played_call : Played → Call → Reply → Played
played_call p c x =
    let out = marked (min c.c 64) in
    both (ran_of c p.store out).store (judged_outcome p.tally x (outcome c p.store out))

unfoldable pub played_row : List (List ℕ) → Played → ℕ → Played
played_row rows p i =
    elim (eqb (cell_of rows i 0) 9) [
      | true ↦ both (set p.store (cell_of rows i 1) (cell_of rows i 2)) p.tally
      | false ↦ played_call p (call_at rows i) (reply_at rows i)
    ]

unfoldable pub played : List (List ℕ) → Played → ℕ → ℕ → Played
played rows = steps (played_row rows)

-- on the first n words of a store, if it has them
unfoldable pub played_in : List (List ℕ) → Played → ℕ → Played
played_in rows p n =
    let q = played rows (both (take n p.store) p.tally) 0 (length rows) in
    elim (leb n (length p.store)) [ true ↦ both (q.store ++ drop n p.store) q.tally | false ↦ p ]
