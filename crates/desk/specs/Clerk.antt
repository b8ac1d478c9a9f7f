-- The transcript as a clerk would check it, with no word and no block: the sizes of the latest set-up that was done, the records accepted
-- since, the book, and the ascending list.
--   Register           == nothing set up yet, or what is held
--   Reckoned           == the bytes replied, and the register after it
--   set_up_reply θ C N P == what set-up replies in a slice of store_words words; after_set_up: the register after it
--   dump_lines m        == the lines of the register m written out
--   range_lines S low high == the lines of the records of S from low to high, and the last line; one line where low is above high
--   reckoned r q       == the answer to the request q; reckoned_line r q: to what a line makes, none where it is wrong
--   reckonings r line input, reckoning input == what is replied to the input, line by line
--   registers r line input, register_after input == the register after the input
--   Stands s r         == the words s are those of the register r
--   Clerk              == the program's transcript is what the clerk replies
--   StandsAfter        == after any input the program's words are all zero or hold the clerk's register
--   OneListing         == the parts of a range make the one listing, however many records a part has
use Rattle.std.specs.Prelude.{◌≡◌, true, false, Option, Some, None, List, [], ◌∷◌, ◌++◌, ℕ, ◌^◌, ◌≤◌, ◌<◌, leb, ltb, eqb, length, replicate}
use Rattle.tree.specs.Book.{entered}
use Rattle.lines.specs.declared.Request.{Request}
use Rattle.lines.specs.declared.Request.TheVariants.{SetUp, Enter, Find, Next, Range, Summary, Dump, Remove}
use Rattle.lines.specs.declared.Kind.TheVariants as kinds
use Rattle.lines.specs.declared.Reply.TheVariants.{RangeEnd, Refused, SetUpLine, WrongLine}
use Rattle.lines.specs.Request.{kind_number, parsed}
use Rattle.lines.specs.Reply.{line_feed, reply_line}
use Rattle.store.specs.declared.Format.TheVariants.{Plots}
use Rattle.store.specs.declared.Item.{Item}
use Rattle.store.specs.Head.{head_of, lawful_sizes, size}
use Rattle.page.specs.Schema.{schema_of}
use Rattle.represent.specs.Rep.{Holds}
use Rattle.scan.specs.Range.{ranged}
use Rattle.readings.specs.Listing.{within, find_in, next_in, summary_in}
use Rattle.insert.specs.Promises.{sizes_in}
use Rattle.index.specs.Model.{Model, fresh, enter_in, remove_in}
use Rattle.desk.specs.Replies.{set_up_told, enter_told, found_told, summary_told, listed_lines}
use Rattle.desk.specs.Transcript.{opened, outcome_bytes, ending, served, store_words, transcript}

pub data Register : Type 0 where
  unset : Register
  holding : Model → Register

pub record Reckoned : Type 0 where
  pub bytes : List ℕ
  pub register : Register

-- "Set-up tests 4, 5"
unfoldable pub set_up_reply : ℕ → ℕ → ℕ → ℕ → Rattle.store.specs.SetUp.Reply
set_up_reply θ C N P =
    elim (lawful_sizes θ C N P) [
      | false ↦ record { number = 4; size = 0 }
      | true ↦
          elim (leb (size Plots θ C N P) store_words) [
            | false ↦ record { number = 5; size = 0 }
            | true ↦ record { number = 0; size = size Plots θ C N P }
          ]
    ]

-- a refused set-up leaves the register, a done one begins it anew
unfoldable pub after_set_up : ℕ → ℕ → ℕ → ℕ → Register → Register
after_set_up θ C N P r = elim (eqb (set_up_reply θ C N P).number 0) [ true ↦ holding (fresh θ C N P) | false ↦ r ]

-- "Range gives a line a record, then answer 1 with the count."
unfoldable pub range_lines : List Item → ℕ → ℕ → List ℕ
range_lines S low high =
    elim (ltb high low) [
      | true ↦ reply_line (Refused (kind_number kinds.Range) 7)
      | false ↦ listed_lines false (within low high S) ++ reply_line (RangeEnd (length (within low high S)))
    ]

-- M-101: "one kind 0 line with its θ, C, N and P, then one kind 1 line a record, ascending"
unfoldable pub dump_lines : Model → List ℕ
dump_lines m =
    let z = m.sizes in
    reply_line (SetUpLine z.theta z.capacity z.node_blocks z.page_blocks) ++ listed_lines true m.held

-- on a store that nobody has set up every request but set-up gets 3
unfoldable pub reckoned : Register → Request → Reckoned
reckoned r (SetUp θ C N P) = record { bytes = reply_line (set_up_told (set_up_reply θ C N P)); register = after_set_up θ C N P r }
reckoned unset (Enter k p l d) = record { bytes = reply_line (Refused (kind_number kinds.Enter) 3); register = unset }
reckoned unset (Find k) = record { bytes = reply_line (Refused (kind_number kinds.Find) 3); register = unset }
reckoned unset (Next k) = record { bytes = reply_line (Refused (kind_number kinds.Next) 3); register = unset }
reckoned unset (Range low high) = record { bytes = reply_line (Refused (kind_number kinds.Range) 3); register = unset }
reckoned unset (Summary low high today) = record { bytes = reply_line (Refused (kind_number kinds.Summary) 3); register = unset }
reckoned unset Dump = record { bytes = reply_line (Refused (kind_number kinds.Dump) 3); register = unset }
reckoned unset (Remove k) = record { bytes = reply_line (Refused (kind_number kinds.Remove) 3); register = unset }
reckoned (holding m) (Enter k p l d) =
    let it : Item = record { key = k; price = p; lease = l; last = d } in
    record {
      bytes = reply_line (enter_told (entered (schema_of Plots) m.sizes m.held it).reply);
      register = holding (enter_in Plots it m).model;
    }
reckoned (holding m) (Find k) = record { bytes = reply_line (found_told kinds.Find (find_in m.held k)); register = holding m }
reckoned (holding m) (Next k) = record { bytes = reply_line (found_told kinds.Next (next_in m.held k)); register = holding m }
reckoned (holding m) (Range low high) = record { bytes = range_lines m.held low high; register = holding m }
reckoned (holding m) (Summary low high today) =
    record { bytes = reply_line (summary_told (summary_in m.held low high today)); register = holding m }
reckoned (holding m) Dump = record { bytes = dump_lines m; register = holding m }
reckoned (holding m) (Remove k) =
    record { bytes = reply_line (found_told kinds.Remove (find_in m.held k)); register = holding (remove_in k m).model }

abbrev pub reckoned_line : Register → Option Request → Reckoned
reckoned_line r (Some q) = reckoned r q
reckoned_line r None = record { bytes = reply_line WrongLine; register = r }

unfoldable pub reckonings : Register → List ℕ → List ℕ → List ℕ
reckonings r line [] = ending line
reckonings r line (b ∷ bs) =
    elim (eqb b line_feed) [
      | true ↦ (reckoned_line r (parsed line)).bytes ++ reckonings (reckoned_line r (parsed line)).register [] bs
      | false ↦ reckonings r (line ++ b ∷ []) bs
    ]

unfoldable pub reckoning : List ℕ → List ℕ
reckoning = reckonings unset []

-- the register after the input, where the bytes of a line so far are `line`
unfoldable pub registers : Register → List ℕ → List ℕ → Register
registers r line [] = r
registers r line (b ∷ bs) =
    elim (eqb b line_feed) [
      | true ↦ registers (reckoned_line r (parsed line)).register [] bs
      | false ↦ registers r (line ++ b ∷ []) bs
    ]

unfoldable pub register_after : List ℕ → Register
register_after = registers unset []

-- all zero where nothing is set up; else the sizes in the head are the register's, the words hold the tree of its list, and there are
-- store_words of them
abbrev pub Stands : List ℕ → Register → Type 0
Stands s unset = s ≡ replicate store_words 0
Stands s (holding m) = (sizes_in s ≡ m.sizes) × Holds Plots s m.held × (length s ≡ store_words)

abbrev pub Clerk : Type 0
Clerk = (input : List ℕ) → transcript input ≡ reckoning input

abbrev pub StandsAfter : Type 0
StandsAfter = (input : List ℕ) → Stands (served (replicate store_words 0) [] input).words (register_after input)

-- on a store that holds a set, what is replied to a range in parts is the listing of one call with room for all
abbrev pub OneListing : Type 0
OneListing =
    (s : List ℕ) (S : List Item) → Holds Plots s S → (low high room : ℕ) → low ≤ high → high < 2 ^ 32 → length S ≤ room
    → let its = (ranged Plots s (head_of s) low high room).items in
    outcome_bytes s (opened s low high) ≡ listed_lines false its ++ reply_line (RangeEnd (length its))
