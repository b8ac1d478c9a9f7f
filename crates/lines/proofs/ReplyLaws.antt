-- A reply line has the bytes of its size: its columns have as many bytes as they are wide.
use mathlib.Core.Path.{◌≡◌}
use Prim.Native.Nat.{ℕ, ◌≤◌}
use native.Mathlib.Omega.{arith}
use lib.ListN.{length, length-append}
use Rattle.lines.specs.declared.Reply.{Reply}
use Rattle.lines.specs.declared.Reply.TheVariants.{SetUpDone, Entered, Found, Listed, RangeEnd, Totals, Refused, WrongLine}
use Rattle.lines.specs.declared.Reply.TheVariants.{SetUpLine, EnterLine}
use Rattle.lines.specs.Reply.{four_fields, summary_fields, request_fields, reply_line, line_size}
use Rattle.lines.proofs.ColumnLaws.{length_column}

length_fields : (kind answer a b c d : ℕ) → length (four_fields kind answer a b c d) ≡ 45
unfolding four_fields
length_fields kind answer a b c d = simp (length-append, length_column)

length_summary : (count total key : ℕ) → length (summary_fields count total key) ≡ 45
unfolding summary_fields
length_summary count total key = simp (length-append, length_column)

length_request : (kind a b c d : ℕ) → length (request_fields kind a b c d) ≡ 43
unfolding request_fields
length_request kind a b c d = simp (length-append, length_column)

pub length_reply : (r : Reply) → length (reply_line r) ≡ line_size r
unfolding reply_line
length_reply (SetUpDone size) = length_fields 0 0 size 0 0 0
length_reply (Entered key levels nodes pages) = length_fields 1 0 key levels nodes pages
length_reply (Found kind key price lease last) = length_fields kind 0 key price lease last
length_reply (Listed key price lease last) = length_fields 4 0 key price lease last
length_reply (RangeEnd count) = length_fields 4 1 count 0 0 0
length_reply (Totals count total key) = length_summary count total key
length_reply (Refused kind answer) = length_fields kind answer 0 0 0 0
length_reply (SetUpLine θ C N P) = length_request 0 θ C N P
length_reply (EnterLine key price lease last) = length_request 1 key price lease last
length_reply WrongLine = length_fields 99 2 0 0 0 0

-- 45 bytes are room for any reply
pub size_most : (r : Reply) → line_size r ≤ 45
size_most (SetUpDone size) = omega arith
size_most (Entered key levels nodes pages) = omega arith
size_most (Found kind key price lease last) = omega arith
size_most (Listed key price lease last) = omega arith
size_most (RangeEnd count) = omega arith
size_most (Totals count total key) = omega arith
size_most (Refused kind answer) = omega arith
size_most (SetUpLine θ C N P) = omega arith
size_most (EnterLine key price lease last) = omega arith
size_most WrongLine = omega arith
