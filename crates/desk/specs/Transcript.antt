-- What the counter program writes, for every input. Document 01, "The counter program".
--   Outcome              == a request's reply: one line, a listing in parts, or a line and then a listing
--   listing dump low high count == the listing of the records from low to high, so many
--   opened s low high    == the outcome of a range; dumped s: of the register written out; opened_by, dumped_by: by their survey
--   Answered, answered s r == the outcome of the request r on the store s, and the words after it
--   answered_line s q     == the same of what a line makes: a request, or none where the line is wrong
--   outcome_bytes s o     == the bytes of an outcome, on the words after it
--   Served, served s line input == the bytes replied to the input, on the store s with the bytes of a line so far; and the words at the end
--   before bytes a       == bytes in front of a
--   ending line          == the reply to bytes after the last 0A
--   store_words           == how many words the store has
--   transcript input     == the bytes that the program writes
use Rattle.std.specs.Prelude.{Bool, true, false, Option, Some, None, Result, Ok, Err, List, [], ◌∷◌, ◌++◌, ℕ, eqb, replicate}
use Rattle.lines.specs.declared.Request.{Request}
use Rattle.lines.specs.declared.Request.TheVariants.{SetUp, Enter, Find, Next, Range, Summary, Dump, Remove}
use Rattle.lines.specs.declared.Kind.TheVariants as kinds
use Rattle.lines.specs.declared.Reply.TheVariants.{Refused, SetUpLine, WrongLine}
use Rattle.lines.specs.Request.{kind_number, parsed}
use Rattle.lines.specs.Reply.{line_feed, reply_line}
use Rattle.store.specs.declared.Format.TheVariants.{Plots}
use Rattle.store.specs.declared.Head.{Head}
use Rattle.store.specs.Head.{head_of}
use Rattle.store.specs.SetUp.{set_up}
use Rattle.search.specs.Find.{find_reply}
use Rattle.search.specs.Next.{next_reply}
use Rattle.scan.specs.Summary.{summary_of}
use Rattle.insert.specs.Enter.{enter_of}
use Rattle.remove.specs.Remove.{remove_of}
use Rattle.desk.specs.declared.Listing.{Listing}
use Rattle.desk.specs.declared.Outcome.{Outcome}
use Rattle.desk.specs.declared.Outcome.TheVariants.{Line, Parts, Register}
use Rattle.desk.specs.Replies.{set_up_told, enter_told, found_told, summary_told}
use Rattle.desk.specs.Listing.{surveyed, carried}

pub record Answered : Type 0 where
  pub outcome : Outcome
  pub words : List ℕ

abbrev pub listing : Bool → ℕ → ℕ → ℕ → Listing
listing dump low high count = record { dump = dump; at = low; high = high; count = count }

-- a refused range is one line; else its records are counted, and listed from low on
abbrev pub opened_by : ℕ → ℕ → Result ℕ ℕ → Outcome
opened_by low high (Ok count) = Parts (listing false low high count)
opened_by low high (Err number) = Line (Refused (kind_number kinds.Range) number)

unfoldable pub opened : List ℕ → ℕ → ℕ → Outcome
opened s low high = opened_by low high (surveyed s low high)

abbrev pub largest_key : ℕ
largest_key = 4294967295

-- M-101: "prints the store as input lines: one kind 0 line with its θ, C, N and P, then one kind 1 line a record, ascending. .. A store that
-- fails 3 or 9 prints only the usual refusal line." (All blocks are visited before the first line is written.)
abbrev pub dumped_by : Head → Result ℕ ℕ → Outcome
dumped_by h (Ok count) = Register (SetUpLine h.theta h.capacity h.node_blocks h.page_blocks) (listing true 1 largest_key count)
dumped_by h (Err number) = Line (Refused (kind_number kinds.Dump) number)

unfoldable pub dumped : List ℕ → Outcome
dumped s = dumped_by (head_of s) (surveyed s 1 largest_key)

-- "The kind selects: 0 set-up (θ, C, N, P), 1 enter, 2 find, 3 next, 4 range (low, high), 5 summary (low, high, today)"; M-101: "A new kind
-- 6"; M-106: "a remove call by key, kind 7 in the program"; "A wrong line replies kind 99, answer 2."
unfoldable pub answered : List ℕ → Request → Answered
answered s (SetUp θ C N P) = let a = set_up Plots θ C N P s in record { outcome = Line (set_up_told a.reply); words = a.words }
answered s (Enter k p l d) =
    let a = enter_of Plots s (record { key = k; price = p; lease = l; last = d }) in
    record { outcome = Line (enter_told a.reply); words = a.words }
answered s (Find k) = record { outcome = Line (found_told kinds.Find (find_reply Plots s k)); words = s }
answered s (Next k) = record { outcome = Line (found_told kinds.Next (next_reply Plots s k)); words = s }
answered s (Range low high) = record { outcome = opened s low high; words = s }
answered s (Summary low high today) = record { outcome = Line (summary_told (summary_of Plots s low high today)); words = s }
answered s Dump = record { outcome = dumped s; words = s }
answered s (Remove k) = let a = remove_of Plots s k in record { outcome = Line (found_told kinds.Remove a.reply); words = a.words }

abbrev pub answered_line : List ℕ → Option Request → Answered
answered_line s (Some r) = answered s r
answered_line s None = record { outcome = Line WrongLine; words = s }

unfoldable pub outcome_bytes : List ℕ → Outcome → List ℕ
outcome_bytes s (Line r) = reply_line r
outcome_bytes s (Parts l) = carried s (Some l)
outcome_bytes s (Register r l) = reply_line r ++ carried s (Some l)

pub record Served : Type 0 where
  pub bytes : List ℕ
  pub words : List ℕ

abbrev pub before : List ℕ → Served → Served
before bytes a = record { bytes = bytes ++ a.bytes; words = a.words }

-- "Bytes after the last 0A are one wrong line."
unfoldable pub ending : List ℕ → List ℕ
ending [] = []
ending (b ∷ bs) = reply_line WrongLine

-- "then byte 0A hexadecimal": it ends a line, which is answered on the words that the line before left
unfoldable pub served : List ℕ → List ℕ → List ℕ → Served
served s line [] = record { bytes = ending line; words = s }
served s line (b ∷ bs) =
    elim (eqb b line_feed) [
      | true ↦
          let a = answered_line s (parsed line) in
          before (outcome_bytes a.words a.outcome) (served a.words [] bs)
      | false ↦ served s (line ++ b ∷ []) bs
    ]

-- "It reads standard input into a store of 8,192 words, all zero at the start."
abbrev pub store_words : ℕ
store_words = 8192

unfoldable pub transcript : List ℕ → List ℕ
transcript input = (served (replicate store_words 0) [] input).bytes
