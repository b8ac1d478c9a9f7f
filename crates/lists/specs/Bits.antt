-- Bits of a number.
--   bit w k    == bit w of k is set; bit 0 is the lowest
--   bits w k   == the low w bits of k as a list, high bit first
--   index n bs == the number that the first n bits of bs spell, high bit first; a bit past the end counts as clear
use Rattle.std.specs.Prelude.{Bool, true, false, List, [], ◌∷◌, ℕ, zero, suc, ◌+◌, ◌/◌, ◌%◌, ◌^◌, eqb}

unfoldable pub bit : ℕ → ℕ → Bool
bit w k = eqb (k / 2 ^ w % 2) 1

abbrev pub bits : ℕ → ℕ → List Bool
bits zero k = []
bits (suc w) k = bit w k ∷ bits w k

abbrev pub index : ℕ → List Bool → ℕ
index zero bs = 0
index (suc n) [] = index n []
index (suc n) (false ∷ bs) = index n bs
index (suc n) (true ∷ bs) = 2 ^ n + index n bs
