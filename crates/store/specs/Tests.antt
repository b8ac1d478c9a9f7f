-- The tests of a call, in order. Document 01, "When the desk says no": "Set-up tests 4, 5; the others 3, 7, 6, then 9, 8, 10."
--   Test       == the number that refuses a call, and whether the test is passed
--   failing ts == the number of the first test that fails, 0 if none does
use Rattle.std.specs.Prelude.{Bool, true, false, List, [], ◌∷◌, ℕ}

abbrev pub Test : Type 0
Test = ℕ × Bool

unfoldable pub failing : List Test → ℕ
failing [] = 0
failing (t ∷ ts) = elim t.1 [ true ↦ failing ts | false ↦ t.0 ]
