-- Request lines. Document 01, "The counter program".
--   kind_number k    == the number of a kind; kind_numbered n: the kind of a number
--   kind_of r, fields_of r == the kind and the four fields of a request
--   request_line r   == the line of a request
--   field_of bs j    == the columns of field number j of a line, counted from 0
--   request_of kind a b c d == the request that a kind and four fields make
--   parsed bs       == the request that a line makes, none where it is wrong
--   unused, well_formed == fields that the kind does not use are 0; the columns are plain numbers
use Rattle.std.specs.Prelude.{Bool, true, false, ◌&&◌, List, [], ◌∷◌, ◌++◌, ℕ, zero, suc, ◌+◌, ◌*◌, eqb, length}
use Rattle.std.specs.Prelude.{Option, Some, None, option_and_then, ◌==◌}
use Rattle.std.specs.Bool.{then_some}
use Rattle.std.specs.List.{list_all}
use Rattle.lists.specs.Lists.{part}
use Rattle.lines.specs.declared.Request.{Request}
use Rattle.lines.specs.declared.Request.TheVariants.{SetUp, Enter, Find, Next, Range, Summary, Dump, Remove}
use Rattle.lines.specs.declared.Kind.{Kind}
use Rattle.lines.specs.declared.Kind.TheVariants as kinds
use Rattle.lines.specs.Columns.{number_of, is_number, column}

-- "The kind selects: 0 set-up (θ, C, N, P), 1 enter, 2 find, 3 next, 4 range (low, high), 5 summary (low, high, today)". M-101: "A new kind
-- 6, all fields 0, prints the store as input lines". M-106: "a remove call by key, kind 7 in the
-- program"; "Wrong lines are kinds 8 to 99."
abbrev pub kind_number : Kind → ℕ
kind_number kinds.SetUp = 0
kind_number kinds.Enter = 1
kind_number kinds.Find = 2
kind_number kinds.Next = 3
kind_number kinds.Range = 4
kind_number kinds.Summary = 5
kind_number kinds.Dump = 6
kind_number kinds.Remove = 7

unfoldable pub kind_numbered : ℕ → Option Kind
kind_numbered zero = Some kinds.SetUp
kind_numbered (suc zero) = Some kinds.Enter
kind_numbered (suc (suc zero)) = Some kinds.Find
kind_numbered (suc (suc (suc zero))) = Some kinds.Next
kind_numbered (suc (suc (suc (suc zero)))) = Some kinds.Range
kind_numbered (suc (suc (suc (suc (suc zero))))) = Some kinds.Summary
kind_numbered (suc (suc (suc (suc (suc (suc zero)))))) = Some kinds.Dump
kind_numbered (suc (suc (suc (suc (suc (suc (suc zero))))))) = Some kinds.Remove
kind_numbered (suc (suc (suc (suc (suc (suc (suc (suc n)))))))) = None

abbrev pub kind_of : Request → Kind
kind_of (SetUp a b c d) = kinds.SetUp
kind_of (Enter a b c d) = kinds.Enter
kind_of (Find a) = kinds.Find
kind_of (Next a) = kinds.Next
kind_of (Range a b) = kinds.Range
kind_of (Summary a b c) = kinds.Summary
kind_of Dump = kinds.Dump
kind_of (Remove a) = kinds.Remove

-- "Unused fields are 0."
abbrev pub fields_of : Request → List ℕ
fields_of (SetUp a b c d) = a ∷ b ∷ c ∷ d ∷ []
fields_of (Enter a b c d) = a ∷ b ∷ c ∷ d ∷ []
fields_of (Find a) = a ∷ 0 ∷ 0 ∷ 0 ∷ []
fields_of (Next a) = a ∷ 0 ∷ 0 ∷ 0 ∷ []
fields_of (Range a b) = a ∷ b ∷ 0 ∷ 0 ∷ []
fields_of (Summary a b c) = a ∷ b ∷ c ∷ 0 ∷ []
fields_of Dump = 0 ∷ 0 ∷ 0 ∷ 0 ∷ []
fields_of (Remove a) = a ∷ 0 ∷ 0 ∷ 0 ∷ []

abbrev pub columns : List ℕ → List ℕ
columns [] = []
columns (n ∷ ns) = column 10 n ++ columns ns

-- "A line is the kind in 2 columns and four fields of 10" (the byte 0A after it is no part of it here)
unfoldable pub request_line : Request → List ℕ
request_line r = column 2 (kind_number (kind_of r)) ++ columns (fields_of r)

unfoldable pub field_of : List ℕ → ℕ → List ℕ
field_of bs j = part bs (2 + 10 * j) 10

-- the request, if the fields that it does not use are 0
unfoldable pub unused : Request → List ℕ → Option Request
unused r others = then_some (list_all (λ n. n == 0) others) r

unfoldable pub request_of : Kind → ℕ → ℕ → ℕ → ℕ → Option Request
request_of kinds.SetUp a b c d = Some (SetUp a b c d)
request_of kinds.Enter a b c d = Some (Enter a b c d)
request_of kinds.Find a b c d = unused (Find a) (b ∷ c ∷ d ∷ [])
request_of kinds.Next a b c d = unused (Next a) (b ∷ c ∷ d ∷ [])
request_of kinds.Range a b c d = unused (Range a b) (c ∷ d ∷ [])
request_of kinds.Summary a b c d = unused (Summary a b c) (d ∷ [])
request_of kinds.Dump a b c d = unused Dump (a ∷ b ∷ c ∷ d ∷ [])
request_of kinds.Remove a b c d = unused (Remove a) (b ∷ c ∷ d ∷ [])

-- the kind and the four fields are all numbers
unfoldable pub well_formed : List ℕ → Bool
well_formed bs =
    eqb (length bs) 42 && is_number (part bs 0 2) && is_number (field_of bs 0) && is_number (field_of bs 1) && is_number (field_of bs 2)
    && is_number (field_of bs 3)

unfoldable pub parsed : List ℕ → Option Request
parsed bs =
    elim (well_formed bs) [
      | true ↦
          option_and_then
          (λ kind. request_of kind (number_of (field_of bs 0)) (number_of (field_of bs 1)) (number_of (field_of bs 2)) (number_of (field_of bs 3)))
          (kind_numbered (number_of (part bs 0 2)))
      | false ↦ None
    ]
