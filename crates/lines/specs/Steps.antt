-- What the inner functions give.
--   taken t n      == the number n if t
--   spelled_by n ds == the number that the bytes ds spell after the digits of n, if all are digits and it is a 32-bit number
--   number_in bs    == the number in the columns bs, if they hold one
--   digit_or n      == the byte of a column before the last: the low digit of n, or a blank where n is 0
use Rattle.std.specs.Prelude.{Bool, true, false, ◌&&◌, Option, Some, None, List, ℕ, ◌+◌, ◌%◌, ◌^◌, ltb, eqb}
use Rattle.lists.specs.Lists.{all}
use Rattle.lines.specs.Columns.{blank, nought, digit, value, number_of, is_number}

unfoldable pub taken : Bool → ℕ → Option ℕ
taken true n = Some n
taken false n = None

unfoldable pub spelled_by : ℕ → List ℕ → Option ℕ
spelled_by n ds = taken (all digit ds && ltb (value n ds) (2 ^ 32)) (value n ds)

unfoldable pub number_in : List ℕ → Option ℕ
number_in bs = taken (is_number bs) (number_of bs)

unfoldable pub digit_or : ℕ → ℕ
digit_or n = elim (eqb n 0) [ true ↦ blank | false ↦ nought + n % 10 ]
