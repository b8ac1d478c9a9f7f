-- The sample of document 01, "The counter program", and lines of M-101 and M-106, as rows of one table. `proofs/Checks.antt` proves that all hold.
--   Check          == a row: a request line as it stands there with its request, a wrong line, or a reply with its line
--   bytes text     == the bytes of a text
--   same xs ys     == the two lists are equal
--   same_request r s == the two requests are equal: no two kinds are the same number
--   is_request q s == there is a request, and it is equal to s
--   holds c        == the line parses to the request and is its line; the line parses to none; the line is the reply's line
--   table          == the rows
use Rattle.std.specs.Prelude.{Bool, true, false, ◌&&◌, Option, Some, None, is_none, List, [], ◌∷◌, ℕ, eqb}
use Prim.Native.Char.{code}
use Prim.Native.String.{String}
use Prim.Native.String as text
use Rattle.lines.specs.declared.Request.{Request}
use Rattle.lines.specs.declared.Request.TheVariants.{SetUp, Enter, Find, Next, Range, Summary, Dump, Remove}
use Rattle.lines.specs.declared.Reply.{Reply}
use Rattle.lines.specs.declared.Reply.TheVariants.{SetUpDone, Entered, Found, Listed, RangeEnd, Totals, Refused, SetUpLine, EnterLine, WrongLine}
use Rattle.lines.specs.Request.{kind_number, kind_of, fields_of, request_line, parsed}
use Rattle.lines.specs.Reply.{reply_line}

unfoldable pub bytes : String → List ℕ
bytes text.[] = []
bytes (text.◌∷◌ c cs) = code c ∷ bytes cs

unfoldable pub same : List ℕ → List ℕ → Bool
same [] [] = true
same [] (y ∷ ys) = false
same (x ∷ xs) [] = false
same (x ∷ xs) (y ∷ ys) = eqb x y && same xs ys

unfoldable pub same_request : Request → Request → Bool
same_request r s = eqb (kind_number (kind_of r)) (kind_number (kind_of s)) && same (fields_of r) (fields_of s)

unfoldable pub is_request : Option Request → Request → Bool
is_request (Some r) s = same_request r s
is_request None s = false

pub data Check : Type 0 where
  request : String → Request → Check
  wrong : String → Check
  reply : Reply → String → Check

unfoldable pub holds : Check → Bool
holds (request line r) = is_request (parsed (bytes line)) r && same (request_line r) (bytes line)
holds (wrong line) = is_none (parsed (bytes line))
holds (reply r line) = same (reply_line r) (bytes line)

unfoldable pub table : List Check
table =
    -- the input
    request " 0         1         1         4         4" (SetUp 1 1 4 4)
    ∷ request " 12147483648   1250000     36525     66000" (Enter 2147483648 1250000 36525 66000)
    ∷ request " 13221225472     90000         0         0" (Enter 3221225472 90000 0 0)
    ∷ request " 11073741824     60000      9131     45999" (Enter 1073741824 60000 9131 45999)
    ∷ request " 23221225472         0         0         0" (Find 3221225472)
    ∷ request " 5         14294967295     46000         0" (Summary 1 4294967295 46000)
    -- the output
    ∷ reply (SetUpDone 68) " 0 0        68         0         0         0\n"
    ∷ reply (Entered 2147483648 1 1 1) " 1 02147483648         1         1         1\n"
    ∷ reply (Entered 3221225472 2 3 2) " 1 03221225472         2         3         2\n"
    ∷ reply (Entered 1073741824 2 3 3) " 1 01073741824         2         3         3\n"
    ∷ reply (Found 2 3221225472 90000 0 0) " 2 03221225472     90000         0         0\n"
    ∷ reply (Totals 3 684496 1073741824) " 5 0         3              6844961073741824\n"
    -- kinds 3, 4 and 99: "next, 4 range (low, high)"; "Range gives a line a record, then answer 1 with the count."; "A wrong line replies
    -- kind 99, answer 2. Other fields are 0."
    ∷ request " 32147483648         0         0         0" (Next 2147483648)
    ∷ request " 4         13221225472         0         0" (Range 1 3221225472)
    ∷ wrong "99         0         0         0         0"
    ∷ reply (Found 3 3221225472 90000 0 0) " 3 03221225472     90000         0         0\n"
    ∷ reply (Listed 1073741824 60000 9131 45999) " 4 01073741824     60000      9131     45999\n"
    ∷ reply (RangeEnd 3) " 4 1         3         0         0         0\n"
    ∷ reply (Refused 4 7) " 4 7         0         0         0         0\n"
    ∷ reply WrongLine "99 2         0         0         0         0\n"
    -- M-101
    ∷ request " 6         0         0         0         0" Dump
    ∷ reply (SetUpLine 1 1 4 4) " 0         1         1         4         4\n"
    ∷ reply (EnterLine 2147483648 1250000 36525 66000) " 12147483648   1250000     36525     66000\n"
    -- M-106
    ∷ request " 73221225472         0         0         0" (Remove 3221225472)
    ∷ reply (Found 7 3221225472 90000 0 0) " 7 03221225472     90000         0         0\n"
    ∷ []
