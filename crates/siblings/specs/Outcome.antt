-- What the definitions say of an outcome, damage included: records with `ok`, which is false where damage was met, and with `found`, which is false where
-- nothing is beside. The code returns `Err` there and `None` there, and else the fields alone.
--   Found     == the pointer to a sibling
--   Mate      == the page beside a stretch, and the count of its records
--   PageJoins == how often the pages of a removal join
--   NodeJoins == a level after its joins
--   found_of, mate_of, joins_of, nodes_of == the record of what the code returns
use Rattle.std.specs.Prelude.{Option, Some, None, Result, Ok, Err, Bool, true, false, ℕ}
use Rattle.answers.specs.declared.Refusal.{Refusal}

pub record Found : Type 0 where
  pub ok : Bool
  pub found : Bool
  pub pointer : ℕ

pub record Mate : Type 0 where
  pub ok : Bool
  pub found : Bool
  pub pointer : ℕ
  pub count : ℕ

pub record PageJoins : Type 0 where
  pub ok : Bool
  pub n : ℕ

pub record NodeJoins : Type 0 where
  pub ok : Bool
  pub number : ℕ
  pub used : ℕ
  pub last : ℕ
  pub end : ℕ

abbrev pub found_of : Result (Option ℕ) Refusal → Found
found_of (Ok (Some p)) = record { ok = true; found = true; pointer = p }
found_of (Ok None) = record { ok = true; found = false; pointer = 0 }
found_of (Err e) = record { ok = false; found = false; pointer = 0 }

abbrev pub mate_of : Result (Option Rattle.siblings.specs.declared.Mate.Mate) Refusal → Mate
mate_of (Ok (Some m)) = record { ok = true; found = true; pointer = m.pointer; count = m.count }
mate_of (Ok None) = record { ok = true; found = false; pointer = 0; count = 0 }
mate_of (Err e) = record { ok = false; found = false; pointer = 0; count = 0 }

abbrev pub joins_of : Result ℕ Refusal → PageJoins
joins_of (Ok n) = record { ok = true; n = n }
joins_of (Err e) = record { ok = false; n = 0 }

abbrev pub nodes_of : Result Rattle.siblings.specs.declared.NodeJoins.NodeJoins Refusal → NodeJoins
nodes_of (Ok r) = record { ok = true; number = r.number; used = r.used; last = r.last; end = r.end }
nodes_of (Err e) = record { ok = false; number = 0; used = 0; last = 0; end = 0 }
