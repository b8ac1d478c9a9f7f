-- The numbers of refusals. Document 01, the table of answers: 0 is done, and 1 is none.
--   number r == the number of the refusal r
use Rattle.std.specs.Prelude.{ℕ}
use Rattle.answers.specs.declared.Refusal.{Refusal}
use Rattle.answers.specs.declared.Refusal.TheVariants.{HeadBroken, SizesOutside, TooShort, RecordOutside, LowAboveHigh, KeyHeld, DamageMet, NoBlocks, NoLabel}

-- "head rule broken: 3"; "set-up θ, C, N or P outside limits: 4"; "set-up slice shorter than the size: 5"; "record or today outside its
-- limits: 6"; "low above high: 7"; "key already held: 8"; "damaged block visited: 9"; "entry needs more blocks than remain: 10"; "label or key
-- outside its limits: 11"
abbrev pub number : Refusal → ℕ
number HeadBroken = 3
number SizesOutside = 4
number TooShort = 5
number RecordOutside = 6
number LowAboveHigh = 7
number KeyHeld = 8
number DamageMet = 9
number NoBlocks = 10
number NoLabel = 11
