-- What the definitions say of an outcome, damage included: records with `ok`, which is false where damage was met. The code returns `Err` there, and else
-- the fields alone.
--   Rise       == the way up: whether the level below joined, the bits of its stretch and the pointer to it, and the end of the released nodes
--   LevelJoins == the levels after their joins
--   sound_rise == the record, with `ok`, of a value of the code
--   rise_of, levels_of == the record of what the code returns
use Rattle.std.specs.Prelude.{Result, Ok, Err, Bool, true, false, ℕ}
use Rattle.answers.specs.declared.Refusal.{Refusal}

pub record Rise : Type 0 where
  pub ok : Bool
  pub joins : Bool
  pub bits : ℕ
  pub pointer : ℕ
  pub end : ℕ

pub record LevelJoins : Type 0 where
  pub ok : Bool
  pub changed : ℕ
  pub linked : Bool
  pub end : ℕ

abbrev pub sound_rise : Rattle.levels.specs.declared.Rise.Rise → Rise
sound_rise w = record { ok = true; joins = w.joins; bits = w.bits; pointer = w.pointer; end = w.end }

abbrev pub rise_of : Result Rattle.levels.specs.declared.Rise.Rise Refusal → Rise
rise_of (Ok w) = sound_rise w
rise_of (Err e) = record { ok = false; joins = false; bits = 0; pointer = 0; end = 0 }

abbrev pub levels_of : Result Rattle.levels.specs.declared.LevelJoins.LevelJoins Refusal → LevelJoins
levels_of (Ok r) = record { ok = true; changed = r.changed; linked = r.linked; end = r.end }
levels_of (Err e) = record { ok = false; changed = 0; linked = false; end = 0 }
