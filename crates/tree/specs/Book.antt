-- The book: what a list of enter calls is to reply, and the records held after it. Document 01, "The book".
--   Schema R         == what is known of records R: key width in bits, key, which are lawful, the number that refuses the others
--   plot_schema       == document 01's plots: 32 bits
--   Sizes            == θ, page capacity C, node blocks N, page blocks P
--   tree F C S       == the level-0 stretches of the ascending list S
--   levels_of, nodes_of, pages_of F p S == levels, nodes and pages of the tree of S
--   fits F p S       == the tree of S fits
--   Reply            == an answer's number with key, levels, nodes and pages
--   entered F p S r  == what one call replies and the records after it
--   book F p S rs    == the same for a list of calls, from the records S
--   accepts F p S r  == the record r joins the book that holds S
--   accepted F p S rs == the records of a list of calls that join the book, in the order of the calls
--   Narrow F         == every lawful key fits the key width
--   log2 C           == the largest f with 2^f ≤ C
--   level_bound W θ C == document 01's L
--   refused n        == the reply of a refusal with the number n
--   Entered, Booked  == a reply or replies, with the records held after them
--   log_below n C     == the largest f ≤ n with 2^f ≤ C
use Rattle.std.specs.Prelude.{◌≡◌, Bool, true, false, not, ◌&&◌, List, [], ◌∷◌, ℕ, zero, suc, ◌+◌, ◌-◌, ◌/◌, ◌^◌, ◌<◌, leb}
use Rattle.plot.specs.declared.Record.{Record}
use Rattle.plot.specs.Plot.{lawful}
use Rattle.lists.specs.Keyed.{contains, insert}
use Rattle.tree.specs.Trie.{Trie, shape}
use Rattle.tree.specs.Tower.{levels, nodes}
use Rattle.tree.specs.Build.{build, pages}

pub record Schema (R : Type 0) : Type 0 where
  pub width : ℕ
  pub key : R → ℕ
  pub lawful : R → Bool
  pub unlawful : ℕ

abbrev pub plot_schema : Schema Record
plot_schema = record { width = 32; key = λ r. r.key; lawful = lawful; unlawful = 6 }

pub record Sizes : Type 0 where
  pub theta : ℕ
  pub capacity : ℕ
  pub node_blocks : ℕ
  pub page_blocks : ℕ

pub record Reply : Type 0 where
  pub number : ℕ
  pub key : ℕ
  pub levels : ℕ
  pub nodes : ℕ
  pub pages : ℕ

abbrev pub refused : ℕ → Reply
refused n = record { number = n; key = 0; levels = 0; nodes = 0; pages = 0 }

pub record Entered (R : Type 0) : Type 0 where
  pub reply : Reply
  pub held : List R

pub record Booked (R : Type 0) : Type 0 where
  pub replies : List Reply
  pub held : List R

module _ {R : Type 0} (F : Schema R) (p : Sizes) where
  abbrev pub tree : List R → Trie (List R)
  tree S = build F.key p.capacity F.width S

  abbrev pub levels_of : List R → ℕ
  levels_of S = levels p.theta (shape (tree S))

  abbrev pub nodes_of : List R → ℕ
  nodes_of S = nodes p.theta (shape (tree S))

  abbrev pub pages_of : List R → ℕ
  pages_of S = pages (tree S)

  -- "The tree fits when it has at most N nodes and at most P pages."
  unfoldable pub fits : List R → Bool
  fits S = leb (nodes_of S) p.node_blocks && leb (pages_of S) p.page_blocks

  -- "For each call the first that applies: record outside its limits or key 0, answer 6; key in the book, 8; the tree of the book with
  -- this record doesn't fit, 10. These leave the book alone and reply zeros. Otherwise the record joins the book: answer 0, with its key
  -- and the levels, nodes and pages of the book's tree."
  unfoldable pub entered : List R → R → Entered R
  entered S r =
      elim (F.lawful r) [
        | false ↦ record { reply = refused F.unlawful; held = S }
        | true ↦
            elim (contains F.key (F.key r) S) [
              | true ↦ record { reply = refused 8; held = S }
              | false ↦
                  elim (fits (insert F.key r S)) [
                    | false ↦ record { reply = refused 10; held = S }
                    | true ↦
                        record {
                          reply = record {
                            number = 0;
                            key = F.key r;
                            levels = levels_of (insert F.key r S);
                            nodes = nodes_of (insert F.key r S);
                            pages = pages_of (insert F.key r S);
                          };
                          held = insert F.key r S;
                        }
                  ]
            ]
      ]

  -- "It starts empty."
  unfoldable pub book : List R → List R → Booked R
  book S [] = record { replies = []; held = S }
  book S (r ∷ rs) =
      let e = entered S r in
      let b = book e.held rs in
      record { replies = e.reply ∷ b.replies; held = b.held }

  unfoldable pub accepts : List R → R → Bool
  accepts S r = F.lawful r && (not (contains F.key (F.key r) S) && fits (insert F.key r S))

  -- "Accepted records are those in the book."
  unfoldable pub accepted : List R → List R → List R
  accepted S [] = []
  accepted S (r ∷ rs) = elim (accepts S r) [ true ↦ r ∷ accepted (insert F.key r S) rs | false ↦ accepted S rs ]

abbrev pub Narrow : {R : Type 0} → Schema R → Type 0
Narrow {R} F = (r : R) → F.lawful r ≡ true → F.key r < 2 ^ F.width

-- the largest f ≤ n with 2^f ≤ C
unfoldable pub log_below : ℕ → ℕ → ℕ
log_below zero C = 0
log_below (suc n) C = elim (leb (2 ^ suc n) C) [ true ↦ suc n | false ↦ log_below n C ]

-- "f the largest whole number with 2^f ≤ C" (2^f ≤ C makes f at most C)
abbrev pub log2 : ℕ → ℕ
log2 C = log_below C C

-- "L is (32 − f) / θ rounded up", for a width of W bits
unfoldable pub level_bound : ℕ → ℕ → ℕ → ℕ
level_bound W θ C = (W - log2 C + (θ - 1)) / θ
