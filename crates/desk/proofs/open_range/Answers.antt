-- The survey decides.
use Rattle.std.proofs.Common.{◌∙◌, ℕ, ap}
use Rattle.lines.specs.declared.Kind.TheVariants as kinds
use Rattle.lines.specs.declared.Reply.TheVariants.{Refused}
use Rattle.lines.specs.Request.{kind_number}
use Rattle.desk.specs.declared.Outcome.TheVariants.{Line}
use Rattle.desk.specs.Listing.{survey_told}
use Rattle.desk.proofs.ListingLaws.{opened_parts, opened_refused}
use Rattle.desk.proofs.open_range.Goals as goal

pub returns-in-Ok : goal.returns-in-Ok
returns-in-Ok c = opened_parts _ _ _ _ _ c.count_range.ensures (ap survey_told c.in-Ok.is)

pub returns-in-Err : goal.returns-in-Err
returns-in-Err c =
    ap (λ (k : ℕ). Line (Refused k c.number-in-Err.result)) c.number.ensures
    ∙ ap (λ (n : ℕ). Line (Refused (kind_number kinds.Range) n)) c.number-in-Err.ensures
    ∙ opened_refused _ _ _ _ _ c.count_range.ensures (ap survey_told c.in-Err.is)
