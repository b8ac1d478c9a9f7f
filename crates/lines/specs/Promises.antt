-- What is promised of lines, each as a type; proofs/Promises.antt proves them.
--   ColumnFits       == a number in w columns takes w bytes
--   ColumnPlain      == and, if it has at most w digits, no leading zero, blanks before, and its own value
--   FormatThenParse  == the line of a request parses to that request
--   ParseThenFormat  == a line that parses is the line of what it parses to, so no two lines mean the same request
--   FieldsFit        == the fields of what a line parses to are 32-bit numbers
--   ReplyFits        == a reply line has the bytes of its size
--   DumpParses       == a line of a register written out, without its byte 0A, is the line of its request
use Rattle.std.specs.Prelude.{◌≡◌, true, Some, List, [], ◌∷◌, ◌++◌, ℕ, ◌^◌, ◌≤◌, ◌<◌, length}
use Rattle.lists.specs.Lists.{All}
use Rattle.lines.specs.declared.Request.{Request}
use Rattle.lines.specs.declared.Request.TheVariants.{SetUp, Enter}
use Rattle.lines.specs.declared.Reply.{Reply}
use Rattle.lines.specs.declared.Reply.TheVariants.{SetUpLine, EnterLine}
use Rattle.lines.specs.Columns.{skipped, plain, number_of, column}
use Rattle.lines.specs.Request.{fields_of, request_line, parsed}
use Rattle.lines.specs.Reply.{line_feed, reply_line, line_size}

abbrev pub ColumnFits : Type 0
ColumnFits = (w n : ℕ) → length (column w n) ≡ w

abbrev pub ColumnPlain : Type 0
ColumnPlain = (w n : ℕ) → 1 ≤ w → n < 10 ^ w → (plain (skipped (column w n)) ≡ true) × (number_of (column w n) ≡ n)

abbrev pub FormatThenParse : Type 0
FormatThenParse = (r : Request) → All (λ n. n < 2 ^ 32) (fields_of r) → parsed (request_line r) ≡ Some r

abbrev pub ParseThenFormat : Type 0
ParseThenFormat = (bs : List ℕ) (r : Request) → parsed bs ≡ Some r → request_line r ≡ bs

abbrev pub FieldsFit : Type 0
FieldsFit = (bs : List ℕ) (r : Request) → parsed bs ≡ Some r → All (λ n. n < 2 ^ 32) (fields_of r)

abbrev pub ReplyFits : Type 0
ReplyFits = (r : Reply) → length (reply_line r) ≡ line_size r

abbrev pub DumpParses : Type 0
DumpParses =
    (a b c d : ℕ)
    → (reply_line (SetUpLine a b c d) ≡ request_line (SetUp a b c d) ++ line_feed ∷ [])
    × (reply_line (EnterLine a b c d) ≡ request_line (Enter a b c d) ++ line_feed ∷ [])
