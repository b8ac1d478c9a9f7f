-- Reply lines. Document 01, "The counter program": "Each reply is kind, answer (2 columns each), four fields."
--   reply_line r    == the line of a reply, with its byte 0A
--   line_size r     == how many bytes it has
--   written r out  == how many bytes writing gives, and the bytes after it
--   line_feed       == the byte 0A hexadecimal
--   four_fields, summary_fields, request_fields == the bytes of a reply, of a summary, and of a request
--   After          == how many bytes were written, and the buffer after it
use Rattle.std.specs.Prelude.{true, false, List, [], ◌∷◌, ◌++◌, ℕ, leb, length, drop}
use Rattle.lines.specs.declared.Reply.{Reply}
use Rattle.lines.specs.declared.Reply.TheVariants.{SetUpDone, Entered, Found, Listed, RangeEnd, Totals, Refused, WrongLine}
use Rattle.lines.specs.declared.Reply.TheVariants.{SetUpLine, EnterLine}
use Rattle.lines.specs.Columns.{column}
use Rattle.lines.specs.Request.{columns}

-- "then byte 0A hexadecimal"
abbrev pub line_feed : ℕ
line_feed = 10

unfoldable pub four_fields : ℕ → ℕ → ℕ → ℕ → ℕ → ℕ → List ℕ
four_fields kind answer a b c d = column 2 kind ++ column 2 answer ++ columns (a ∷ b ∷ c ∷ d ∷ []) ++ line_feed ∷ []

-- "Summary gives count, total in 20 columns, earliest key."
unfoldable pub summary_fields : ℕ → ℕ → ℕ → List ℕ
summary_fields count total key = column 2 5 ++ column 2 0 ++ column 10 count ++ column 20 total ++ column 10 key ++ line_feed ∷ []

-- M-101: "one kind 0 line with its θ, C, N and P, then one kind 1 line a record .. These lines have no answer column."
unfoldable pub request_fields : ℕ → ℕ → ℕ → ℕ → ℕ → List ℕ
request_fields kind a b c d = column 2 kind ++ columns (a ∷ b ∷ c ∷ d ∷ []) ++ line_feed ∷ []

-- "Set-up gives the size. Enter gives key, levels, nodes taken, pages taken. Find and next give the record. Range gives a line a record,
-- then answer 1 with the count. .. A wrong line replies kind 99, answer 2. Other fields are 0."
unfoldable pub reply_line : Reply → List ℕ
reply_line (SetUpDone size) = four_fields 0 0 size 0 0 0
reply_line (Entered key levels nodes pages) = four_fields 1 0 key levels nodes pages
reply_line (Found kind key price lease last) = four_fields kind 0 key price lease last
reply_line (Listed key price lease last) = four_fields 4 0 key price lease last
reply_line (RangeEnd count) = four_fields 4 1 count 0 0 0
reply_line (Totals count total key) = summary_fields count total key
reply_line (Refused kind answer) = four_fields kind answer 0 0 0 0
reply_line (SetUpLine θ C N P) = request_fields 0 θ C N P
reply_line (EnterLine key price lease last) = request_fields 1 key price lease last
reply_line WrongLine = four_fields 99 2 0 0 0 0

pub record After : Type 0 where
  pub count : ℕ
  pub bytes : List ℕ

abbrev pub line_size : Reply → ℕ
line_size (SetUpDone size) = 45
line_size (Entered key levels nodes pages) = 45
line_size (Found kind key price lease last) = 45
line_size (Listed key price lease last) = 45
line_size (RangeEnd count) = 45
line_size (Totals count total key) = 45
line_size (Refused kind answer) = 45
line_size (SetUpLine θ C N P) = 43
line_size (EnterLine key price lease last) = 43
line_size WrongLine = 45

-- nothing is written where the line does not fit
unfoldable pub written : Reply → List ℕ → After
written r out =
    elim (leb (line_size r) (length out)) [
      | true ↦ record { count = line_size r; bytes = reply_line r ++ drop (line_size r) out }
      | false ↦ record { count = 0; bytes = out }
    ]
