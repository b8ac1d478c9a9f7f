-- The starred desk checks of document 01, as rows of one table. `proofs/Checks.antt` proves that all hold.
--   Check    == a row: what is asked, and what the definitions are to give
--   money    == a balance: price, lease days, last day and today; the answer's number and value
--   label    == the key of a label: section, row, place and letter; the answer's number and key
--   figures  == levels, nodes and pages of the tree of some keys
--   replies  == what the book replies to some keys, one after another
--   bound    == L
--   holds    == the definitions give what the row says
--   table    == the rows
use Rattle.std.specs.Prelude.{Bool, true, false, ◌&&◌, List, [], ◌∷◌, ℕ, eqb}
use Rattle.plot.specs.declared.Record.{Record}
use Rattle.plot.specs.Money.{balance_reply}
use Rattle.plot.specs.Label.{key_of_reply}
use Rattle.tree.specs.Trie.{shape}
use Rattle.tree.specs.Tower.{levels, nodes}
use Rattle.tree.specs.Build.{build, pages}
use Rattle.tree.specs.Book.{plot_schema, Sizes, Reply, refused, book, level_bound}

pub data Check : Type 0 where
  money : (price lease last today number value : ℕ) → Check
  label : (section row place letter number key : ℕ) → Check
  figures : (width theta capacity : ℕ) (keys : List ℕ) (levels nodes pages : ℕ) → Check
  replies : Sizes → (keys : List ℕ) → List Reply → Check
  bound : (width theta capacity : ℕ) (levels : ℕ) → Check

abbrev perpetual : ℕ → Record
perpetual k = record { key = k; price = 0; lease = 0; last = 0 }

abbrev records : List ℕ → List Record
records [] = []
records (k ∷ ks) = perpetual k ∷ records ks

abbrev same_reply : Reply → Reply → Bool
same_reply a b =
    eqb a.number b.number && (eqb a.key b.key
    && (eqb a.levels b.levels && (eqb a.nodes b.nodes && eqb a.pages b.pages)))

abbrev same_replies : List Reply → List Reply → Bool
same_replies [] [] = true
same_replies [] (b ∷ rs) = false
same_replies (a ∷ qs) [] = false
same_replies (a ∷ qs) (b ∷ rs) = same_reply a b && same_replies qs rs

unfoldable pub holds : Check → Bool
holds (money price lease last today number value) =
    let r = balance_reply price lease last today in eqb r.number number && eqb r.value value
holds (label section row place letter number key) =
    let r = key_of_reply (record { section = section; row = row; place = place; letter = letter }) in
    eqb r.number number && eqb r.key key
holds (figures w θ C ks l n p) =
    let t = build (λ (k : ℕ). k) C w ks in eqb (levels θ (shape t)) l && (eqb (nodes θ (shape t)) n && eqb (pages t) p)
holds (replies s ks rs) = same_replies (book plot_schema s [] (records ks)).replies rs
holds (bound w θ C l) = eqb (level_bound w θ C) l

abbrev sizes : ℕ → ℕ → ℕ → ℕ → Sizes
sizes θ C N P = record { theta = θ; capacity = C; node_blocks = N; page_blocks = P }

abbrev reply : ℕ → ℕ → ℕ → ℕ → ℕ → Reply
reply a k l n p = record { number = a; key = k; levels = l; nodes = n; pages = p }

abbrev top_two : List ℕ
top_two = 4294967294 ∷ 4294967295 ∷ []

abbrev three : List ℕ
three = 1073741824 ∷ 2147483648 ∷ 3221225472 ∷ []

unfoldable pub table : List Check
table =
    -- "Price 1,250,000, lease 36,525, 20,000 days left: 684,462." M-104: it "stands with today one day later"
    money 1250000 36525 66000 46001 0 684462
    -- M-104: "the "today = last day" case becomes one day's share."
    ∷ money 1250000 36525 66000 66000 0 34
    -- "Last day − today above the lease days: the full price."
    ∷ money 60000 9131 45999 0 0 60000
    -- "Label 1, 0, 0: 16,777,216."
    ∷ label 1 0 0 0 0 16777216
    -- M-102: "The starred label 255, 4,095, 4,095 becomes 255, 4,095, 255, 15."
    ∷ label 255 4095 255 15 0 4294967295
    -- "Section 0: 11."
    ∷ label 0 0 0 0 11 0
    -- "The empty set: 1 level, 1 node, 0 pages."
    ∷ figures 32 1 1 [] 1 1 0
    -- "The three keys above, θ = 1, C = 1: 2 levels, 3 nodes, 3 pages."
    ∷ figures 32 1 1 three 2 3 3
    -- "Keys 4,294,967,294 and 4,294,967,295, θ = 6, C = 1: 6 levels, 76 nodes, 2 pages."
    ∷ figures 32 6 1 top_two 6 76 2
    -- "With P = 2, N = 75 refuses the second with 10; N = 76 takes it."
    ∷ replies (sizes 6 1 75 2) top_two (reply 0 4294967294 1 1 1 ∷ refused 10 ∷ [])
    ∷ replies (sizes 6 1 76 2) top_two (reply 0 4294967294 1 1 1 ∷ reply 0 4294967295 6 76 2 ∷ [])
    -- "The same two, θ = 1: 32 levels, 528 nodes."
    ∷ figures 32 1 1 top_two 32 528 2
    -- "L for θ = 6, C = 64 is 5." M-105: "takes C = 24, still 5"
    ∷ bound 32 6 24 5
    ∷ []
