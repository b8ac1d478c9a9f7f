-- A refusal is told by its number, which is not 0; one that a `?` passes on ends a survey with that number.
use mathlib.Core.Path.{◌≡◌, refl, ap}
use native.Mathlib.Omega.{arith}
use Rattle.std.specs.Prelude.{ℕ, Result, Ok, Err, IsErrAnd}
use Rattle.answers.specs.declared.Refusal.{Refusal}
use Rattle.answers.specs.declared.Refusal.TheVariants.{HeadBroken, SizesOutside, TooShort, RecordOutside, LowAboveHigh, KeyHeld, DamageMet, NoBlocks, NoLabel}
use Rattle.answers.specs.Answers.{number}
use Rattle.lines.specs.declared.Kind.{Kind}
use Rattle.lines.specs.declared.Reply.{Reply}
use Rattle.lines.specs.declared.Reply.TheVariants.{Refused}
use Rattle.lines.specs.Request.{kind_number}
use Rattle.desk.specs.Listing.{survey_told}
use Rattle.desk.specs.Replies.{told}

pub refused_told : (k : Kind) (e : Refusal) (r : Reply) → Refused (kind_number k) (number e) ≡ told k (number e) r
unfolding told
refused_told k HeadBroken r = refl
refused_told k SizesOutside r = refl
refused_told k TooShort r = refl
refused_told k RecordOutside r = refl
refused_told k LowAboveHigh r = refl
refused_told k KeyHeld r = refl
refused_told k DamageMet r = refl
refused_told k NoBlocks r = refl
refused_told k NoLabel r = refl

pub number_some : (e : Refusal) → number e ≡ 0 → ⊥
number_some HeadBroken z = omega (arith, z)
number_some SizesOutside z = omega (arith, z)
number_some TooShort z = omega (arith, z)
number_some RecordOutside z = omega (arith, z)
number_some LowAboveHigh z = omega (arith, z)
number_some KeyHeld z = omega (arith, z)
number_some DamageMet z = omega (arith, z)
number_some NoBlocks z = omega (arith, z)
number_some NoLabel z = omega (arith, z)

-- a refusal that a `?` passes on
pub survey_passed : (e : Refusal) (r : Result ℕ Refusal) → IsErrAnd r (λ y. y ≡ e) → survey_told r ≡ Err (number e)
survey_passed e (Ok count) h = absurd h
survey_passed e (Err y) h = ap (λ (x : Refusal). Err (number x)) h
