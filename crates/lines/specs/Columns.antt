-- Numbers in columns of a line. Document 01, "The counter program": "decimal, right-justified, blanks before, no leading zeros, 32-bit".
--   digit b       == the byte b is a decimal digit
--   skipped bs    == the bytes bs without the blanks before
--   plain ds      == the bytes ds are a decimal number without leading zeros
--   value n ds    == the number that the digits ds spell after those of n
--   number_of bs   == the number in the columns bs
--   is_number bs   == the columns bs hold a 32-bit number as document 01 has it
--   byte_at w n i  == the byte in column i of w columns that hold the number n
--   column w n    == the number n in w columns
--   blank, nought == the bytes of a blank and of the digit 0
use Rattle.std.specs.Prelude.{Bool, true, false, not, ◌&&◌, ◌||◌, List, [], ◌∷◌, ℕ, ◌+◌, ◌-◌, ◌*◌, ◌/◌, ◌%◌, ◌^◌, leb, ltb, eqb, length}
use Rattle.lists.specs.Lists.{all, tab}

abbrev pub blank : ℕ
blank = 32

-- the digit 0
abbrev pub nought : ℕ
nought = 48

unfoldable pub digit : ℕ → Bool
digit b = leb nought b && leb b 57

-- "blanks before"
unfoldable pub skipped : List ℕ → List ℕ
skipped [] = []
skipped (b ∷ bs) = elim (eqb b blank) [ true ↦ skipped bs | false ↦ b ∷ bs ]

-- "decimal", "no leading zeros": one digit, or several of which the first is not 0
unfoldable pub plain : List ℕ → Bool
plain [] = false
plain (d ∷ ds) = digit d && all digit ds && (not (eqb d nought) || eqb (length ds) 0)

unfoldable pub value : ℕ → List ℕ → ℕ
value n [] = n
value n (d ∷ ds) = value (10 * n + (d - nought)) ds

unfoldable pub number_of : List ℕ → ℕ
number_of bs = value 0 (skipped bs)

-- "32-bit"
unfoldable pub is_number : List ℕ → Bool
is_number bs = plain (skipped bs) && ltb (number_of bs) (2 ^ 32)

-- "right-justified": the last column has the last digit; a column has a blank where no digit is left for it
unfoldable pub byte_at : ℕ → ℕ → ℕ → ℕ
byte_at w n i =
    elim (eqb (n / 10 ^ (w - 1 - i)) 0 && ltb i (w - 1)) [
      | true ↦ blank
      | false ↦ nought + n / 10 ^ (w - 1 - i) % 10
    ]

unfoldable pub column : ℕ → ℕ → List ℕ
column w n = tab w (byte_at w n)
