-- What the definitions of this crate give, damage included: records with `ok`, which is false where damage was met. The code returns
-- `Err DamageMet` there, and else the fields without `ok`.
--   Listing           == how a range ends: how many records it writes, and the first key not written, 0 if none
--   Summing           == a summary's totals
--   listing_result l, totals_result r == what the code returns
use Rattle.std.specs.Prelude.{Bool, Result, ℕ}
use Rattle.answers.specs.declared.Refusal.{Refusal}
use Rattle.totals.specs.declared.Totals.{Totals}
use Rattle.search.specs.Way.{answered}

pub record Listing : Type 0 where
  pub ok : Bool
  pub count : ℕ
  pub more : ℕ

pub record Summing : Type 0 where
  pub ok : Bool
  pub totals : Totals

abbrev pub listing_result : Listing → Result Rattle.scan.specs.declared.Listing.Listing Refusal
listing_result l = answered l.ok (record { count = l.count; more = l.more })

abbrev pub totals_result : Summing → Result Totals Refusal
totals_result r = answered r.ok r.totals
